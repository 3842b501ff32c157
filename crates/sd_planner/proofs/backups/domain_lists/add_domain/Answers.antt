use Rattle.std.proofs.Common.{◌<◌, ◌++◌, [], ◌∷◌, length, arith, get_or, ap, ◌∙◌}
use Rattle.std.proofs.lemmas.List.{length-set, get_or_default}
use Rattle.std.proofs.lemmas.Option.{slice_get-get_or}
use Rattle.sd_num.proofs.Places.{has_at}
use Rattle.sd_planner.proofs.Listing.{thing_more}
use Rattle.sd_planner.proofs.backups.domain_lists.add_domain.Goals as goal

pub bounds-lists-thing : goal.bounds-lists-thing
bounds-lists-thing c =
    let k = c.loop-thing.thing-index in
    let things = c.args.things.now in
    let within : k < length things = omega arith in
    let there = c.requires (get_or things k 0) (has_at things k (get_or things k 0) (slice_get-get_or things k 0 within)) in
    omega (arith, there, c.loop-thing.invariant.size)

pub loop-thing-preserved : goal.loop-thing-preserved
loop-thing-preserved c =
    let k = c.loop-thing.thing-index in
    let things = c.args.things.now in
    let within : k < length things = omega arith in
    let there = c.requires (get_or things k 0) (has_at things k (get_or things k 0) (slice_get-get_or things k 0 within)) in
    let inside : get_or things k 0 < length c.loop-thing.lists = omega (arith, there, c.loop-thing.invariant.size) in
    record {
      size = length-set c.loop-thing.lists (get_or things k 0) c.push.new.self ∙ c.loop-thing.invariant.size;
      each = thing_more c.loop-thing.lists c.args.lists.now c.push.new.self c.args.domain things k within inside c.loop-thing.invariant.each
          (c.in_ok-push.ensures.added ∙ ap (λ xs. xs ++ c.args.domain ∷ []) (get_or_default c.loop-thing.lists (get_or things k 0) _ [] inside));
    }
