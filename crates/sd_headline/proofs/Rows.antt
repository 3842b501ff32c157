-- Written texts that meet the sentences of the headline, and texts that do not.
use Rattle.std.specs.Prelude.{◌≡◌, true, false, codes, refl}
use Rattle.sd_headline.specs.Headlines.{no_early_alarm, no_early_interval, no_early_disorder, no_case_alarm}

alarm_behind_broken : no_early_alarm (codes "report 3 r 1000000 1700\nbroken 5 start\nreport 6 b 0 1500\nalarm 6 interval b 1004000\ndone 7 3\n") ≡ true
alarm_behind_broken = refl

alarm_before_broken : no_early_alarm (codes "report 3 r 1000000 1700\nalarm 6 loop b\nbroken 7 tick\ndone 7 3\n") ≡ false
alarm_before_broken = refl

no_broken_at_all : no_early_alarm (codes "alarm 6 loop b\n") ≡ false
no_broken_at_all = refl

no_alarm_at_all : no_early_alarm (codes "report 3 r 1000000 1700\ndone 7 1\n") ≡ true
no_alarm_at_all = refl

nothing_written : no_early_alarm (codes "") ≡ true
nothing_written = refl

other_premise : no_early_interval (codes "broken 5 tick\nalarm 6 interval b 1004000\n") ≡ false
other_premise = refl

honest_alarm : no_early_interval (codes "alarm 4 roots r b\nbroken 5 drift\nalarm 6 interval b 1004000\n") ≡ true
honest_alarm = refl

disorder_behind_start : no_early_disorder (codes "broken 5 start\ndisorder 6 3\n") ≡ true
disorder_behind_start = refl

disorder_behind_loss : no_early_disorder (codes "broken 5 loss\ndisorder 6 3\n") ≡ false
disorder_behind_loss = refl

calm_case : no_case_alarm (codes "case 3102 30 3202950 0 0\n") ≡ true
calm_case = refl

alarmed_case : no_case_alarm (codes "case 3102 30 3202950 0 10\n") ≡ false
alarmed_case = refl

broken_case : no_case_alarm (codes "case 3102 30 3202950 20 10\n") ≡ true
broken_case = refl

cut_case : no_case_alarm (codes "case 3102 30 3202950 0") ≡ true
cut_case = refl

cut_alarm : no_early_alarm (codes "report 3 r 1000000 1700\nalarm") ≡ true
cut_alarm = refl
