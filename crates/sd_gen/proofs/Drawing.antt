-- Words that are drawn one by one.
use Rattle.std.specs.Prelude.{◌≡◌, ℕ, suc, ◌+◌, ◌-◌, ◌%◌, ◌<◌, List, [], ◌∷◌, ◌++◌, map, refl}
use Rattle.std.proofs.Common.{arith, ap, sym, ◌∙◌, append_assoc}
use Rattle.std.proofs.lemmas.List.{append-nil}
use Rattle.rand_core.specs.Steps.{first_words}
use Rattle.rand_pcg.specs.Lcg.{Lcg, advance, state_after}
use Rattle.rand_pcg.specs.Pcg.{multiplier_64, pcg32}
use Rattle.sd_gen.specs.Drafts.{word_of, behind_word}

-- the leads of this many devices
abbrev pub leads_of : ℕ → Lcg → List ℕ
leads_of n g = map (λ w. w % 301) (first_words pcg32 n g)

words_more : (n : ℕ) (g : Lcg) → first_words pcg32 (suc n) g ≡ word_of g ∷ first_words pcg32 n (behind_word g)
unfolding first_words
words_more n g = refl

words_none : (g : Lcg) → first_words pcg32 0 g ≡ []
unfolding first_words
words_none g = refl

jump_more : (n : ℕ) (g : Lcg) → advance 64 multiplier_64 (suc n) g ≡ advance 64 multiplier_64 n (behind_word g)
unfolding state_after
jump_more n g = refl

jump_none : (g : Lcg) → advance 64 multiplier_64 0 g ≡ g
unfolding state_after
jump_none g = refl

pub word_is : (word : ℕ) (old new : Lcg) → ◌≡◌ {A = ℕ × Lcg} (word, new) (pcg32 old) → (word ≡ word_of old) × (new ≡ behind_word old)
word_is word old new drawn = (ap (λ (p : ℕ × Lcg). p.0) drawn, ap (λ (p : ℕ × Lcg). p.1) drawn)

-- one device more has its lead
pub draws_more : (devices k word : ℕ) (old new : Lcg) (leads more whole : List ℕ) → k < devices → ◌≡◌ {A = ℕ × Lcg} (word, new) (pcg32 old)
    → more ≡ leads ++ word % 301 ∷ []
    → leads ++ leads_of (devices - k) old ≡ whole → more ++ leads_of (devices - (k + 1)) new ≡ whole
draws_more devices k word old new leads more whole less drawn is before =
    let left : devices - k ≡ suc (devices - (k + 1)) = omega (arith, less) in
    let parts = word_is word old new drawn in
    let here : leads_of (devices - k) old ≡ word_of old % 301 ∷ leads_of (devices - (k + 1)) (behind_word old) =
    ap (λ n. leads_of n old) left ∙ ap (map (λ w. w % 301)) (words_more (devices - (k + 1)) old) in
    ap (λ ls. ls ++ leads_of (devices - (k + 1)) new) is
    ∙ append_assoc leads (word % 301 ∷ []) (leads_of (devices - (k + 1)) new)
    ∙ ap (λ w. leads ++ w % 301 ∷ leads_of (devices - (k + 1)) new) parts.0
    ∙ ap (λ g. leads ++ word_of old % 301 ∷ leads_of (devices - (k + 1)) g) parts.1
    ∙ ap (λ ls. leads ++ ls) (sym here)
    ∙ before

pub jumps_more : (devices k word : ℕ) (old new whole : Lcg) → k < devices → ◌≡◌ {A = ℕ × Lcg} (word, new) (pcg32 old)
    → advance 64 multiplier_64 (devices - k) old ≡ whole → advance 64 multiplier_64 (devices - (k + 1)) new ≡ whole
jumps_more devices k word old new whole less drawn before =
    let left : devices - k ≡ suc (devices - (k + 1)) = omega (arith, less) in
    ap (advance 64 multiplier_64 (devices - (k + 1))) (word_is word old new drawn).1
    ∙ sym (jump_more (devices - (k + 1)) old)
    ∙ ap (λ n. advance 64 multiplier_64 n old) (sym left)
    ∙ before

pub draws_end : (devices k : ℕ) (g : Lcg) (leads whole : List ℕ) → devices - k ≡ 0 → leads ++ leads_of (devices - k) g ≡ whole → leads ≡ whole
draws_end devices k g leads whole none before =
    sym (ap (λ n. leads ++ leads_of n g) none ∙ ap (λ ws. leads ++ map (λ w. w % 301) ws) (words_none g) ∙ append-nil leads) ∙ before

pub jumps_end : (devices k : ℕ) (g whole : Lcg) → devices - k ≡ 0 → advance 64 multiplier_64 (devices - k) g ≡ whole → g ≡ whole
jumps_end devices k g whole none before = sym (ap (λ n. advance 64 multiplier_64 n g) none ∙ jump_none g) ∙ before
