use Rattle.std.proofs.Common.{◌-◌, [], ◌∷◌, ◌++◌, take, flat_map}
use Rattle.sd_plan.specs.Subtrees.{subtree, ArePlaced}
use Rattle.sd_plan.proofs.index.preorder.+place.Given as goal

abbrev pub decreases-place : goal.decreases-place
decreases-place l = l.hops

-- after the device itself the children so far are placed, with all below them
abbrev pub invariant-loop-child : goal.invariant-loop-child
invariant-loop-child l =
    ArePlaced l.children (flat_map (subtree l.children (l.hops - 1)) (take l.child-index l.below))
    (l.fn.order.items ++ l.d ∷ []) l.order.items l.fn.spans l.spans
