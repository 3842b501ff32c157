-- One that is put among others: they are the same, and no more began after a place.
use Rattle.std.proofs.Common.{◌∙◌, ◌<◌, ◌∷◌, List, Option, sum_by, sym, ap, subst}
use Rattle.std.specs.Prelude.{IfSome}
use Rattle.std.proofs.lemmas.List.Elements.{All-head, All-tail}
use Rattle.std.proofs.lemmas.Map.Views.{All-insert_key}
use Rattle.sd_replay.specs.wait.Waiting.{AllBelow, order_of, with_pending}
use Rattle.sd_replay.specs.declared.wait.transactions.Transaction.{Transaction}
use Rattle.sd_replay.proofs.wait.Keeping.{inserted}
use Rattle.sd_replay.proofs.wait.transactions.settle.Goals as goal

pub returns-clause-same : goal.returns-clause-same
returns-clause-same c = λ f.
    let kept = c.args.waiting.now.keys in
    ap (sum_by f) c.in-Ok.ensures.keys
    ∙ sym (inserted c.in-Some.begun kept (subst (λ (o : Option Transaction). IfSome o (λ t. AllBelow t.place kept)) c.in-Some.is c.requires) f)
    ∙ sym (ap (λ (o : Option Transaction). sum_by f (with_pending o kept)) c.in-Some.is)

pub returns-clause-below : goal.returns-clause-below
returns-clause-below c = λ place all.
    let kept = c.args.waiting.now.keys in
    let all_of : AllBelow place (c.in-Some.begun ∷ kept) = subst (λ (o : Option Transaction). AllBelow place (with_pending o kept)) c.in-Some.is all in
    subst (λ (ts : List Transaction). AllBelow place ts) (sym c.in-Ok.ensures.keys)
    (All-insert_key order_of c.in-Some.begun (λ (t : Transaction). t.place < place) kept
    (All-tail (λ (t : Transaction). t.place < place) c.in-Some.begun kept all_of)
    (All-head (λ (t : Transaction). t.place < place) c.in-Some.begun kept all_of))
