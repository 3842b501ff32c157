-- Each that is found is taken out, and at the end none is left.
use Rattle.std.proofs.Common.{◌∙◌, ◌++◌, [], ◌∷◌, List, append-nil, append_assoc, ap, arith, filter, length, sym}
use Rattle.std.specs.BTreeMap.{is_at}
use Rattle.std.specs.Prelude.{not}
use Rattle.std.proofs.lemmas.Map.Made.{length-remove_key}
use Rattle.sd_replay.specs.wait.Waiting.{ends_below, order_of}
use Rattle.sd_replay.specs.declared.wait.transactions.Transaction.{Transaction}
use Rattle.sd_replay.proofs.wait.Keeping.{none_found, removed}
use Rattle.sd_replay.proofs.wait.transactions.end_below.Goals as goal

pub loop-t-smaller : goal.loop-t-smaller
loop-t-smaller c =
    let kept = c.loop-t.waiting.keys in
    let out = removed (ends_below c.args.device c.args.low) c.in-Some.t kept (sym c.first_below.ensures ∙ c.in-Some.is) in
    omega (arith, ap length c.remove.ensures.keys, length-remove_key (is_at (order_of c.in-Some.t)) kept out.there)

pub loop-t-preserved : goal.loop-t-preserved
loop-t-preserved c =
    let ends = ends_below c.args.device c.args.low in
    let kept = c.loop-t.waiting.keys in
    let ended = c.loop-t.ended.items in
    let t = c.in-Some.t in
    let out = removed ends t kept (sym c.first_below.ensures ∙ c.in-Some.is) in
    record {
      those = ap (λ (es : List Transaction). es ++ filter ends c.remove.new.self.keys) c.push_reserved.ensures.items
          ∙ append_assoc ended (t ∷ []) (filter ends c.remove.new.self.keys)
          ∙ ap (λ (ts : List Transaction). ended ++ t ∷ filter ends ts) c.remove.ensures.keys ∙ ap (λ (ts : List Transaction). ended ++ ts) (sym out.those)
          ∙ c.loop-t.invariant.those;
      others = ap (filter (λ u. not (ends u))) c.remove.ensures.keys ∙ out.others ∙ c.loop-t.invariant.others;
      room = omega (
        arith,
        c.loop-t.invariant.room,
        c.push_reserved.ensures.len,
        c.push_reserved.ensures.capacity,
        ap length c.remove.ensures.keys,
        length-remove_key (is_at (order_of t)) kept out.there,
      );
      capacity = omega (arith, c.loop-t.invariant.capacity, c.push_reserved.ensures.capacity);
    }

pub returns-clause-ended : goal.returns-clause-ended
returns-clause-ended c =
    let both = none_found (ends_below c.args.device c.args.low) c.loop-t.waiting.keys (sym c.first_below.ensures ∙ c.in_default.is) in
    sym (append-nil c.loop-t.ended.items) ∙ ap (λ (ts : List Transaction). c.loop-t.ended.items ++ ts) (sym both.0) ∙ c.loop-t.invariant.those

pub returns-clause-left : goal.returns-clause-left
returns-clause-left c =
    let both = none_found (ends_below c.args.device c.args.low) c.loop-t.waiting.keys (sym c.first_below.ensures ∙ c.in_default.is) in
    sym both.1 ∙ c.loop-t.invariant.others
