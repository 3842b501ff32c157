use Rattle.std.proofs.Common.{◌+◌, ◌++◌, ◌∷◌, [], List, ap, length, refl, subst, sym, ◌∙◌}
use Rattle.std.proofs.lemmas.List.FromFn.{length-map-range_with_len, map-range_with_len_more}
use Rattle.sd_record.specs.merge.Queues.{Queue, new_queue}
use Rattle.sd_record.specs.merge.Turns.{AreTurns}
use Rattle.sd_record.proofs.merge.Turning.{one_log_more}
use Rattle.sd_record.proofs.merge.logs.Logs.new.Goals as goal

pub loop-place-preserved : goal.loop-place-preserved
loop-place-preserved c =
    let before = c.loop-place.logs.items in
    let pushed = c.in-Ok.ensures.items ∙ ap (λ (q : Queue). before ++ q ∷ []) c.new.ensures in
    let many = ap (λ (qs : List Queue). length qs) c.loop-place.invariant.logs ∙ length-map-range_with_len (λ n. new_queue) 1 c.loop-place.place in
    record {
      logs =
          pushed ∙ ap (λ (qs : List Queue). qs ++ new_queue ∷ []) c.loop-place.invariant.logs
          ∙ sym (map-range_with_len_more (λ n. new_queue) 1 c.loop-place.place (1 + c.loop-place.place) refl);
      turns =
          subst (AreTurns c.add.new.self) (sym pushed)
          (one_log_more c.loop-place.turns c.add.new.self before c.loop-place.place (sym many) c.loop-place.invariant.turns c.in_ok-add.ensures.added);
    }
