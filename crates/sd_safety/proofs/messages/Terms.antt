-- Where each term is of one acting life, no two emissions have one stamp; and where besides no newer term was emitted in an epoch, its
-- emissions are spaced: what the flow of a round asks.
use Rattle.std.specs.Prelude.{◌≡◌, ℕ, ◌+◌, ◌<◌, ◌≤◌, List, [], ◌∷◌, ◌⊎◌}
use Rattle.std.proofs.Common.{arith, sym, ◌∙◌, ap, subst, inl, inr}
use Rattle.std.proofs.lemmas.Bool.{cases_lt}
use Rattle.sd_num.specs.Lists.{map_or}
use Rattle.sd_plan.specs.topo.Network.{least_low}
use Rattle.sd_device.specs.declared.msg.Stamp.{Stamp}
use Rattle.sd_device.specs.declared.msg.Message.{Message}
use Rattle.sd_device.specs.msg.Stamps.{stamp as stamp_at}
use Rattle.sd_device.specs.Words.{after, stamp_now}
use Rattle.sd_history.specs.World.{Setting}
use Rattle.sd_history.specs.Steps.{Act, Calls, Step}
use Rattle.sd_history.specs.Chronicle.{past_in}
use Rattle.sd_safety.specs.messages.Moments.{Moment, upto, when, IsIn, IsBefore, Emits}
use Rattle.sd_safety.specs.messages.Stamping.{IsOlder, IsUpTo}
use Rattle.sd_safety.specs.messages.Rounds.{IsOneLife, AreApart, AreDistinct, IsSpaced}
use Rattle.sd_safety.proofs.messages.Tails.{Order, before, same, after as comes_after, ordered}
use Rattle.sd_safety.proofs.messages.Sending.{sends_own}
use Rattle.sd_safety.proofs.messages.Rising.{older_is_up_to, older_apart, up_to_itself}
use Rattle.sd_safety.proofs.messages.Consecutive.{later_is_newer}

-- The stamp that the newest step leaves its device

abbrev pub stamp_by : Act → List Step → Stamp
stamp_by (Calls d call) earlier = map_or (past_in earlier d) (stamp_at 0 0) (λ past. stamp_now (after past call))
stamp_by _ earlier = stamp_at 0 0

abbrev pub stamp_here : List Step → Stamp
stamp_here [] = stamp_at 0 0
stamp_here (s ∷ earlier) = stamp_by s.act earlier

pub stamp_is : (p : Moment) (x : ℕ) (m : Message) → Emits p x m → m.stamp ≡ stamp_here (upto p)
stamp_is p x m emits =
    let s = emits.sends in
    (sends_own s.past s.call m s.effect).0
    ∙ sym (ap (λ a. stamp_by a p.earlier) s.act ∙ ap (λ o. map_or o (stamp_at 0 0) (λ past. stamp_now (after past s.call))) s.there)

-- No two emissions have one stamp.

distinct_by : (steps : List Step) (p q : Moment) (x y : ℕ) (m n : Message) → Emits p x m → Emits q y n → m.stamp ≡ n.stamp
    → (x ≡ y) × (IsBefore p q → IsOlder m.stamp n.stamp) × (IsBefore q p → IsOlder n.stamp m.stamp) → Order p q
    → (upto p ≡ upto q) × (x ≡ y)
distinct_by steps p q x y m n one two equal facts (before t) = absurd (older_apart m.stamp n.stamp (facts.1 t) equal)
distinct_by steps p q x y m n one two equal facts (same there) = (there, facts.0)
distinct_by steps p q x y m n one two equal facts (comes_after t) = absurd (older_apart n.stamp m.stamp (facts.2 t) (sym equal))

pub terms_distinct : (steps : List Step) → IsOneLife steps → AreDistinct steps
terms_distinct steps life p q here there x y m n one two equal =
    let terms : m.stamp.term ≡ n.stamp.term = ap (λ s. s.term) equal in
    let forth = life p q here there x y m n one two terms in
    let back = life q p there here y x n m two one (sym terms) in
    distinct_by steps p q x y m n one two equal (
      forth.0,
      λ t. later_is_newer p q x m n one (subst (λ z. Emits q z n) (sym forth.0) two) t (forth.1 t),
      λ t. later_is_newer q p y n m two (subst (λ z. Emits p z m) (sym back.0) one) t (back.1 t),
    ) (ordered steps p q here there)

-- Emissions are spaced.

pub terms_spaced : (setting : Setting) (steps : List Step) (start : Moment) (source epoch : ℕ) (m0 : Message) → IsIn start steps → Emits start source m0
    → IsOneLife steps → AreApart setting steps
    → ((p : Moment) → IsIn p steps → (x : ℕ) (m : Message) → Emits p x m → m.epoch ≡ epoch → m.stamp.term ≤ m0.stamp.term)
    → IsSpaced setting steps m0.stamp epoch start
terms_spaced setting steps start source epoch m0 here emits life apart newest p there x m emits' epoch_is = by_term (cases_lt m.stamp.term m0.stamp.term)
  where
    by_order : m.stamp.term ≡ m0.stamp.term → Order p start → IsUpTo m.stamp m0.stamp ⊎ (when start + least_low setting.net setting.net.params.period ≤ when p)
    by_order terms (before t) =
        let forth = life p start there here x source m m0 emits' emits terms in
        inl (older_is_up_to m.stamp m0.stamp (later_is_newer p start x m m0 emits' (subst (λ z. Emits start z m0) (sym forth.0) emits) t (forth.1 t)))
    by_order terms (same equal) =
        let stamps : m.stamp ≡ m0.stamp = stamp_is p x m emits' ∙ ap stamp_here equal ∙ sym (stamp_is start source m0 emits) in
        inl (subst (λ s. IsUpTo s m0.stamp) (sym stamps) (up_to_itself m0.stamp))
    by_order terms (comes_after t) =
        let back = life start p here there source x m0 m emits emits' (sym terms) in
        inr (apart start p here there t source m0 m emits (subst (λ z. Emits p z m) (sym back.0) emits') (back.1 t) (sym terms))

    by_term : (m.stamp.term < m0.stamp.term) ⊎ (m0.stamp.term ≤ m.stamp.term)
        → IsUpTo m.stamp m0.stamp ⊎ (when start + least_low setting.net setting.net.params.period ≤ when p)
    by_term (inl less) = inl (inl less)
    by_term (inr least) = let most = newest p there x m emits' epoch_is in by_order (omega (arith, least, most)) (ordered steps p start there here)
