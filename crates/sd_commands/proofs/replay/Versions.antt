-- Histories over a network with another version are the same: no word on histories asks for the version.
use Rattle.std.proofs.Common.{◌≡◌, ℕ, zero, suc, ◌+◌, Bool, true, false, List, [], ◌∷◌, ◌++◌, Option, Some, None, refl, ap, ◌∙◌, length}
use Rattle.std.specs.Prelude.{◌&&◌, ◌||◌, not, filter, flat_map, nat_eq}
use Rattle.std.specs.List.{list_all, list_any}
use Rattle.sd_num.specs.Lists.{map_or}
use Rattle.sd_num.specs.Texts.{text_of}
use Rattle.sd_plan.specs.topo.Network.{Network, device_numbers, link_numbers, joins}
use Rattle.sd_plan.specs.topo.Joined.{joined_within}
use Rattle.sd_plan.specs.declared.topo.Thing.{Thing}
use Rattle.sd_plan.specs.declared.topo.Thing.TheVariants as thing
use Rattle.sd_plan.proofs.topo.Versions.{with_version}
use Rattle.sd_plan.specs.domain.Domains.{holds, domains, within_one}
use Rattle.sd_plan.specs.declared.domain.DomainId.{DomainId}
use Rattle.sd_plan.specs.declared.domain.DomainId.TheVariants as domain
use Rattle.sd_plan.specs.declared.Plan.{Plan}
use Rattle.sd_plan.specs.declared.End.{End}
use Rattle.sd_plan.specs.Plans.{is_member, members}
use Rattle.sd_device.specs.declared.msg.Flight.{Flight}
use Rattle.sd_device.specs.declared.msg.Message.{Message}
use Rattle.sd_device.specs.declared.Effect.{Effect}
use Rattle.sd_device.specs.declared.Effect.TheVariants.{Quiet, Send}
use Rattle.sd_sched.specs.declared.Event.{Event}
use Rattle.sd_sched.specs.declared.Event.TheVariants as event
use Rattle.sd_sched.specs.Events.{is_commit}
use Rattle.sd_history.specs.declared.BrokenSet.{BrokenSet}
use Rattle.sd_history.specs.World.{Setting, Seen, is_up, link_has_failed, staged}
use Rattle.sd_history.specs.Steps.{Act, Answers, Told, Step, act_by, acted_by, changed, complete, first_step, flight_to, flights_by, flights_of, flights_to, seen_of, step_of, taken_by}
use Rattle.sd_sched.specs.Events.{reference_of}
use Rattle.sd_history.specs.Chronicle.{chronicle, next_step, told_by}
use Rattle.sd_history.specs.Refusals.{refusal}
use Rattle.sd_history.specs.Things.{failure_of}
use Rattle.sd_history.specs.Premises.{at_each, begins_orderly, breaks, broken_in, commits_orderly, domain_holds, fails_orderly, fails_within_one, failures_since_closing, is_prepared, leaves_out_cleanly, leaves_out_failed, newly, renew_holds, seals_orderly}
use Rattle.sd_history.specs.Lines.{Line, Broken, broken_lines, first_on_loop, lines_of, loop_lines, report_lines, asked_report, root_lines, roots}
use Rattle.sd_history.specs.Text.{bytes_of, line_words}
use Rattle.std.specs.Prelude.{option_to_list, is_some}
use Rattle.sd_num.proofs.Shared.{any_same, find_same}

-- Lists whose elements are judged alike

all_alike : {A : Type 0} (p q : A → Bool) (xs : List A) → ((x : A) → p x ≡ q x) → list_all p xs ≡ list_all q xs
all_alike p q [] same = refl
all_alike p q (x ∷ xs) same = ap (λ (b : Bool). b && list_all p xs) (same x) ∙ ap (λ (b : Bool). q x && b) (all_alike p q xs same)

flat_alike : {A : Type 0} (f g : A → List ℕ) (xs : List A) → ((x : A) → f x ≡ g x) → flat_map f xs ≡ flat_map g xs
flat_alike f g [] same = refl
flat_alike f g (x ∷ xs) same = ap (λ (l : List ℕ). l ++ flat_map f xs) (same x) ∙ ap (λ (l : List ℕ). g x ++ l) (flat_alike f g xs same)

each_alike : (t u : Seen → List Seen → Bool) (seen : List Seen) → ((s : Seen) (earlier : List Seen) → t s earlier ≡ u s earlier)
    → at_each t seen ≡ at_each u seen
each_alike t u [] same = refl
each_alike t u (s ∷ earlier) same = ap (λ (b : Bool). b && t s earlier) (each_alike t u earlier same)
    ∙ ap (λ (b : Bool). at_each u earlier && b) (same s earlier)

module _ (v w : ℕ) (net : Network) where
  abbrev old_net : Network
  old_net = with_version v net

  abbrev new_net : Network
  new_net = with_version w net

  -- Networks

  holds_alike : (f : DomainId) (x : Thing) → holds old_net f x ≡ holds new_net f x
  holds_alike (domain.Listed k) (thing.Device d) = refl
  holds_alike (domain.Listed k) (thing.Link l) = refl
  holds_alike (domain.Device e) (thing.Device d) = refl
  holds_alike (domain.Device e) (thing.Link l) = refl
  holds_alike (domain.Link m) (thing.Device d) = refl
  holds_alike (domain.Link m) (thing.Link l) = refl

  within_alike : (things : List Thing) → within_one old_net things ≡ within_one new_net things
  within_alike things =
      find_same (λ f. list_all (holds old_net f) things) (λ f. list_all (holds new_net f) things) (domains net)
      (λ f. all_alike (holds old_net f) (holds new_net f) things (holds_alike f))

  joined_alike : (may_pass may_cross : ℕ → Bool) (n d x : ℕ) → joined_within old_net may_pass may_cross n d x ≡ joined_within new_net may_pass may_cross n d x
  joined_alike may_pass may_cross zero d x = refl
  joined_alike may_pass may_cross (suc n) d x =
      let near : ℕ → Bool = λ e. may_pass e && list_any (λ l. may_cross l && joins net l d e) (link_numbers net) in
      ap (λ (b : Bool). nat_eq d x || b)
      (any_same (λ e. near e && joined_within old_net may_pass may_cross n e x) (λ e. near e && joined_within new_net may_pass may_cross n e x)
      (device_numbers net)
      (λ e. ap (λ (b : Bool). near e && b) (joined_alike may_pass may_cross n e x)))

  module _ (plans : List Plan) where
    abbrev one : Setting
    one = record { net = old_net; plans = plans }

    abbrev other : Setting
    other = record { net = new_net; plans = plans }

    -- Steps

    flights_alike : (steps : List Step) (reference sender : ℕ) (message : Message) (number : ℕ) (ends : List End)
        → flights_to one steps reference sender message number ends ≡ flights_to other steps reference sender message number ends
    flights_alike steps reference sender message number [] = refl
    flights_alike steps reference sender message number (downstream ∷ others) =
        ap (λ (fs : List Flight). flight_to one steps reference sender message number downstream ∷ fs)
        (flights_alike steps reference sender message (number + 1) others)

    sent_alike : (steps : List Step) (reference d epoch : ℕ) (effect : Effect)
        → flights_by one steps reference d epoch effect ≡ flights_by other steps reference d epoch effect
    sent_alike steps reference d epoch Quiet = refl
    sent_alike steps reference d epoch (Send message) = flights_alike steps reference d message _ _

    told_alike : (steps : List Step) (reference : ℕ) (act : Act) (told : Told)
        → flights_of one steps reference act told ≡ flights_of other steps reference act told
    told_alike steps reference act told = by (changed act) told.answers
      where
        by : (c : Option ℕ) (a : Option Answers)
            → map_or c [] (λ d. map_or a [] (λ x. flights_by one steps reference d x.epoch told.effect))
            ≡ map_or c [] (λ d. map_or a [] (λ x. flights_by other steps reference d x.epoch told.effect))
        by None a = refl
        by (Some d) None = refl
        by (Some d) (Some x) = sent_alike steps reference d x.epoch told.effect

    acts_alike : (steps : List Step) (e : Event) → act_by one steps e ≡ act_by other steps e
    acts_alike steps (event.Start reference device counter clock eps) = refl
    acts_alike steps _ = refl

    -- a step before its closing is known, by what it does and sends
    abbrev first_by : List Step → Event → Told → Act → List Flight → Step
    first_by steps e told act sent =
        record {
          seen = record {
            event = e;
            taken = taken_by steps e;
            sent = filter (λ f. f.reaches) sent;
            activated = None;
            acted = acted_by steps e;
            closed = false;
          };
          act = act;
          told = told;
          sent = sent;
        }

    first_alike : (steps : List Step) (e : Event) (told : Told) → first_step one steps e told ≡ first_step other steps e told
    first_alike steps e told =
        ap (λ (act : Act). first_by steps e told act (flights_of one steps (reference_of e) act told)) (acts_alike steps e)
        ∙ ap (first_by steps e told (act_by other steps e)) (told_alike steps (reference_of e) (act_by other steps e) told)

    steps_alike : (steps : List Step) (e : Event) (told : Told) → step_of one steps e told ≡ step_of other steps e told
    steps_alike steps e told = ap (complete one steps) (first_alike steps e told)

    next_alike : (steps : List Step) (e : Event) → next_step one steps e ≡ next_step other steps e
    next_alike steps e = ap (λ (act : Act). step_of one steps e (told_by steps act)) (acts_alike steps e)
        ∙ steps_alike steps e (told_by steps (act_by other steps e))

    pub chronicle_alike : (events : List Event) → chronicle one events ≡ chronicle other events
    chronicle_alike [] = refl
    chronicle_alike (e ∷ earlier) =
        ap (λ (steps : List Step). next_step one steps e ∷ steps) (chronicle_alike earlier)
        ∙ ap (λ (s : Step). s ∷ chronicle other earlier) (next_alike (chronicle other earlier) e)

    pub refusal_alike : (steps : List Step) (e : Event) → refusal one steps e ≡ refusal other steps e
    refusal_alike steps e = refl

    -- Premises

    fails_alike : (s : Seen) (earlier : List Seen) → fails_within_one one s earlier ≡ fails_within_one other s earlier
    fails_alike s earlier = ap (λ (o : Option DomainId). is_some o) (within_alike (option_to_list (failure_of s.event) ++ failures_since_closing earlier))

    cleanly_alike : (seen : List Seen) (plan : Plan) → leaves_out_cleanly one seen plan ≡ leaves_out_cleanly other seen plan
    cleanly_alike seen plan =
        let goes : ℕ → Bool = λ l. not (link_has_failed seen l) in
        all_alike (λ d. not (is_up seen d && not (is_member plan d) && joined_within old_net (is_up seen) goes (length net.devices) d plan.root))
        (λ d. not (is_up seen d && not (is_member plan d) && joined_within new_net (is_up seen) goes (length net.devices) d plan.root)) (device_numbers net)
        (λ d. ap (λ (b : Bool). not (is_up seen d && not (is_member plan d) && b)) (joined_alike (is_up seen) goes (length net.devices) d plan.root))

    commits_alike : (s : Seen) (earlier : List Seen) → commits_orderly one s earlier ≡ commits_orderly other s earlier
    commits_alike s earlier = ap (λ (b : Bool). not (is_commit s.event) || (s.acted && b)) (by (staged one earlier))
      where
        by : (o : Option Plan)
            → map_or o true (λ plan. list_all (is_prepared one earlier) (members old_net plan) && leaves_out_failed one earlier plan
            && leaves_out_cleanly one earlier plan)
            ≡ map_or o true (λ plan. list_all (is_prepared other earlier) (members new_net plan) && leaves_out_failed other earlier plan
            && leaves_out_cleanly other earlier plan)
        by None = refl
        by (Some plan) =
            ap (λ (b : Bool). list_all (is_prepared one earlier) (members old_net plan) && leaves_out_failed one earlier plan && b) (cleanly_alike earlier plan)

    renews_alike : (seen : List Seen) → renew_holds one seen ≡ renew_holds other seen
    renews_alike seen =
        each_alike (λ s earlier. commits_orderly one s earlier && seals_orderly one s earlier && fails_orderly s earlier && begins_orderly one s earlier)
        (λ s earlier. commits_orderly other s earlier && seals_orderly other s earlier && fails_orderly s earlier && begins_orderly other s earlier) seen
        (λ s earlier. ap (λ (b : Bool). b && seals_orderly one s earlier && fails_orderly s earlier && begins_orderly one s earlier) (commits_alike s earlier))

    broken_by : List Seen → (domain renew : Bool) → BrokenSet
    broken_by seen domain renew = record (broken_in one seen) { domain = not domain; renew = not renew }

    broken_alike : (seen : List Seen) → broken_in one seen ≡ broken_in other seen
    unfolding broken_by
    broken_alike seen =
        ap (λ (b : Bool). broken_by seen b (renew_holds one seen)) (each_alike (fails_within_one one) (fails_within_one other) seen fails_alike)
        ∙ ap (broken_by seen (domain_holds other seen)) (renews_alike seen)

    breaks_alike : (seen : List Seen) → breaks one seen ≡ breaks other seen
    breaks_alike [] = ap (λ (b : BrokenSet). newly b (broken_in one [])) (broken_alike []) ∙ ap (newly (broken_in other [])) (broken_alike [])
    breaks_alike (s ∷ earlier) = ap (λ (b : BrokenSet). newly b (broken_in one (s ∷ earlier))) (broken_alike earlier)
        ∙ ap (newly (broken_in other earlier)) (broken_alike (s ∷ earlier))

    -- Lines

    pub lines_alike : (steps : List Step) → lines_of one steps ≡ lines_of other steps
    lines_alike [] = refl
    lines_alike (s ∷ earlier) =
        ap
        (
        λ (b : BrokenSet). broken_lines b ++ loop_lines (first_on_loop one earlier) (first_on_loop one (s ∷ earlier))
        ++ root_lines (roots one earlier) (roots one (s ∷ earlier))
        ++ map_or (asked_report s) [] (report_lines (reference_of s.seen.event))
        )
        (breaks_alike (seen_of (s ∷ earlier)))

    words_alike : (n : ℕ) (line : Line) → text_of (line_words old_net n line) ≡ text_of (line_words new_net n line)
    words_alike n (Broken premise) = refl
    words_alike n _ = refl

    pub bytes_alike : (steps : List Step) → bytes_of one steps ≡ bytes_of other steps
    bytes_alike steps =
        flat_alike (λ line. text_of (line_words old_net (length steps) line)) (λ line. text_of (line_words new_net (length steps) line)) (lines_of one steps)
        (words_alike (length steps))
        ∙ ap (λ (lines : List Line). flat_map (λ line. text_of (line_words new_net (length steps) line)) lines) (lines_alike steps)
