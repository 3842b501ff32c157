-- Spans that were worked out by hand.
use Rattle.std.specs.Prelude.{◌≡◌, ℕ, [], ◌∷◌, Some, Ok, Err, true, false, refl}
use Rattle.sd_num.specs.declared.Rates.{Rates}
use Rattle.sd_plan.specs.declared.topo.LinkEntry.{LinkEntry}
use Rattle.sd_commands.specs.declared.exchanges.Exchange.{Exchange}
use Rattle.sd_commands.specs.declared.exchanges.ExchangeFault.TheVariants.{Backwards, Impossible}
use Rattle.sd_commands.specs.exchanges.Spans.{span_of, joint_span, is_inside}

abbrev rates : Rates
rates = record { ppm = 200; grain = 1000 }

abbrev exchange : ℕ → ℕ → ℕ → ℕ → ℕ → Exchange
exchange asym t1 t2 t3 t4 = record { asym = asym; t1 = t1; t2 = t2; t3 = t3; t4 = t4 }

abbrev link : LinkEntry
link = record { end_a = 0; end_b = 1; min = 400000; max = 1000000; back_min = 400000; back_max = 1000000 }

symmetric : span_of rates rates (exchange 0 0 5000000 6000000 2400000) ≡ Ok (record { min = 698660; max = 701340 })
symmetric = refl

nearly_symmetric : span_of rates rates (exchange 1 0 5000000 6000000 2400000) ≡ Ok (record { min = 698660; max = 701340 })
nearly_symmetric = refl

less_symmetric : span_of rates rates (exchange 100000 0 5000000 6000000 2400000) ≡ Ok (record { min = 648660; max = 751340 })
less_symmetric = refl

joint_of_two : joint_span (record { min = 698660; max = 701340 } ∷ record { min = 648660; max = 751340 } ∷ []) ≡ Some (record { min = 648660; max = 751340 }, 2)
joint_of_two = refl

lies_inside : is_inside link (record { min = 648660; max = 751340 }) ≡ true
lies_inside = refl

grain_alone : span_of rates rates (exchange 0 7 5 5 7) ≡ Ok (record { min = 0; max = 500 })
grain_alone = refl

lies_outside : is_inside link (record { min = 0; max = 500 }) ≡ false
lies_outside = refl

inside_longer : span_of rates rates (exchange 0 7 0 1000000 7) ≡ Err Impossible
inside_longer = refl

goes_back : span_of rates rates (exchange 0 7 0 0 6) ≡ Err Backwards
goes_back = refl
