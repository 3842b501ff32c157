-- The first file of a name.
use Rattle.std.proofs.Common.{◌≡◌, ℕ, ◌+◌, ◌<◌, List, Some, true, cond, length, get_or, drop, refl, ◌∙◌, add-one, drop-cons, String, Vec, string_bytes}
use Rattle.std.proofs.lemmas.Option.{slice_get-map, slice_get_read}
use Rattle.std.specs.declared.alloc.Global.{Global}
use Rattle.std.specs.Str.{bytes_eq}
use Rattle.sd_io.specs.outside.Texts.{text_in, file_seen, files_seen, text_at}

-- a name is that of the file at i, or of one after it
pub text_in-drop : (fs : List (String Global × Vec ℕ Global)) (i : ℕ) (d : String Global × Vec ℕ Global) (name : List ℕ) → i < length fs
    → text_in (files_seen (drop i fs)) name ≡ cond (bytes_eq (string_bytes (get_or fs i d).0) name) (Some (get_or fs i d).1.items)
    (text_in (files_seen (drop (i + 1) fs)) name)
text_in-drop fs i d name h = rw (add-one, drop-cons fs i d) refl

-- a name is that of the file at i, whose text it has
pub text_in_found : (fs : List (String Global × Vec ℕ Global)) (i : ℕ) (x : String Global × Vec ℕ Global) (name : List ℕ) → i < length fs → x ≡ get_or fs i x
    → bytes_eq (string_bytes x.0) name ≡ true → text_in (files_seen (drop i fs)) name ≡ Some (text_at (files_seen fs) i)
text_in_found fs i x name h e t =
    text_in-drop fs i x name h ∙ (rw (← e, t, slice_get-map file_seen fs i, slice_get_read fs (length fs) i x refl h e) refl)
