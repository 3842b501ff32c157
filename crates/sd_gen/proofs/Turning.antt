-- An event of each device, in turn.
use Rattle.std.specs.Prelude.{◌≡◌, ℕ, ◌+◌, ◌%◌, ◌<◌, length}
use Rattle.std.proofs.Common.{arith, ap, sym, ◌∙◌, subst}
use Rattle.std.proofs.lemmas.Nat.{mod_below}
use Rattle.rand_pcg.specs.Lcg.{Lcg}
use Rattle.rand_pcg.specs.Pcg.{pcg32}
use Rattle.sd_num.specs.Lists.{below}
use Rattle.sd_history.specs.World.{Setting}
use Rattle.sd_gen.specs.declared.driven.Driven.{Ghosts}
use Rattle.sd_gen.specs.declared.driver.Driver.{Driver}
use Rattle.sd_gen.specs.declared.turns.Turn.{Turn}
use Rattle.sd_gen.specs.declared.turns.Turn.TheVariants as turn
use Rattle.sd_gen.specs.Drafts.{Draft, each, try, try_if_up, start_of, word_of, behind_word, ask_of_word}
use Rattle.sd_gen.specs.Turns.{event_by}
use Rattle.sd_gen.specs.Standing.{StandsFor, Becomes, HasDevices}
use Rattle.sd_gen.proofs.Each.{each_below_more}
use Rattle.sd_gen.proofs.Drawing.{word_is}

-- what has been done for the devices below a number
abbrev pub turned : Turn → ℕ → ℕ → Setting → Draft → Draft
turned turn reference n setting x = each (try_if_up setting (event_by turn reference x.leads)) (below n) x

pub turn_more : {D : Type 0} (g : Ghosts D) (first old new : Driver D) (turn : Turn) (reference d n : ℕ) → d < n → HasDevices g first n
    → old.leads.items ≡ first.leads.items
    → ((setting : Setting) (x : Draft) → StandsFor g first setting x → StandsFor g old setting (turned turn reference d setting x))
    → ((setting : Setting) (x : Draft) → d < length setting.net.devices → StandsFor g old setting x
    → StandsFor g new setting (try_if_up setting (event_by turn reference old.leads.items) d x))
    → (setting : Setting) (x : Draft) → StandsFor g first setting x → StandsFor g new setting (turned turn reference (d + 1) setting x)
turn_more g first old new turn reference d n less is leads before one setting x stands =
    let known : length setting.net.devices ≡ n = sym (is setting x stands) in
    let own : old.leads.items ≡ x.leads = leads ∙ stands.leads in
    let done = one setting (turned turn reference d setting x) (omega (arith, less, known)) (before setting x stands) in
    subst (λ y. StandsFor g new setting y) (sym (each_below_more (try_if_up setting (event_by turn reference x.leads)) d x))
    (subst (λ ls. StandsFor g new setting (try_if_up setting (event_by turn reference ls) d (turned turn reference d setting x))) own done)

-- the starts of the devices below a number
abbrev pub some_started : ℕ → Setting → Draft → Draft
some_started n setting x = each (λ d. try setting (start_of setting d)) (below n) x

pub start_more : {D : Type 0} (g : Ghosts D) (first old new : Driver D) (d : ℕ)
    → ((setting : Setting) (x : Draft) → StandsFor g first setting x → StandsFor g old setting (some_started d setting x))
    → ((setting : Setting) (x : Draft) → StandsFor g old setting x → StandsFor g new setting (try setting (start_of setting d) x))
    → (setting : Setting) (x : Draft) → StandsFor g first setting x → StandsFor g new setting (some_started (d + 1) setting x)
start_more g first old new d before one setting x stands =
    subst (λ y. StandsFor g new setting y) (sym (each_below_more (λ k. try setting (start_of setting k)) d x))
    (one setting (some_started d setting x) (before setting x stands))

-- a word is drawn
drawn_on : {D : Type 0} (g : Ghosts D) (old : Driver D) (random : Lcg) (word : ℕ) (setting : Setting) (x : Draft)
    → ◌≡◌ {A = ℕ × Lcg} (word, random) (pcg32 old.random) → StandsFor g old setting x
    → StandsFor g (record old { random = random }) setting (record { rng = behind_word x.rng; leads = x.leads; steps = x.steps; waiting = x.waiting })
drawn_on g old random word setting x drawn stands =
    record {
      net = stands.net;
      run = stands.run;
      is_run = stands.is_run;
      driven = stands.driven;
      steps = stands.steps;
      rng = (word_is word old.random random drawn).1 ∙ ap behind_word stands.rng;
      leads = stands.leads;
      arrivals = stands.arrivals;
    }

-- the device that a word names is asked
pub asked : {D : Type 0} (g : Ghosts D) (old new : Driver D) (random : Lcg) (word device devices reference : ℕ)
    → ◌≡◌ {A = ℕ × Lcg} (word, random) (pcg32 old.random) → HasDevices g (record old { random = random }) devices → (0 < devices) × (device ≡ word % devices)
    → ((setting : Setting) (x : Draft) → device < length setting.net.devices → StandsFor g (record old { random = random }) setting x
    → StandsFor g new setting (try_if_up setting (event_by turn.Ask reference old.leads.items) device x))
    → Becomes g old new (λ setting. ask_of_word setting reference)
asked g old new random word device devices reference drawn count is one setting x stands =
    let parts = word_is word old.random random drawn in
    let y : Draft = record { rng = behind_word x.rng; leads = x.leads; steps = x.steps; waiting = x.waiting } in
    let here : StandsFor g (record old { random = random }) setting y = drawn_on g old random word setting x drawn stands in
    let total : devices ≡ length setting.net.devices = count setting y here in
    let below_all : device < devices = subst (λ (n : ℕ). n < devices) (sym is.1) (mod_below word devices is.0) in
    let named : device ≡ word_of x.rng % length setting.net.devices =
    is.1 ∙ ap (λ w. w % devices) (parts.0 ∙ ap word_of stands.rng) ∙ ap (λ n. word_of x.rng % n) total in
    let done : StandsFor g new setting (try_if_up setting (event_by turn.Ask reference old.leads.items) device y) =
    one setting y (omega (arith, below_all, total)) here in
    subst (λ (d : ℕ). StandsFor g new setting (try_if_up setting (event_by turn.Ask reference x.leads) d y)) named
    (subst (λ ls. StandsFor g new setting (try_if_up setting (event_by turn.Ask reference ls) device y)) stands.leads done)

-- every network has a device
pub some_asked : {D : Type 0} (g : Ghosts D) (old : Driver D) (random : Lcg) (word devices reference : ℕ) → ◌≡◌ {A = ℕ × Lcg} (word, random) (pcg32 old.random)
    → HasDevices g (record old { random = random }) devices
    → (0 < devices → ⊥) → Becomes g old (record old { random = random }) (λ setting. ask_of_word setting reference)
some_asked g old random word devices reference drawn count none setting x stands =
    let total : devices ≡ length setting.net.devices =
    count setting (record { rng = behind_word x.rng; leads = x.leads; steps = x.steps; waiting = x.waiting })
    (drawn_on g old random word setting x drawn stands) in
    let some = stands.net.devices.0 in
    absurd (none (omega (arith, total, some)))
