use Rattle.std.proofs.Common.{◌≡◌, ℕ, ◌<◌, length, slice_get, slice_index, Some}
use Rattle.sd_checker.proofs.check_hit.impact.note_places.Given as goal

abbrev pub invariant-loop-place : goal.invariant-loop-place
invariant-loop-place l = record {
  size : length l.places ≡ length l.fn.places;
  at : (i d : ℕ) → i < l.place → slice_get l.listed i ≡ Some d → slice_index l.places d ≡ i;
}
