-- What was printed in several calls is what they printed together.
use Rattle.std.proofs.Common.{◌≡◌, ℕ, List, [], ◌∷◌, ◌++◌, Option, None, Some, sym, ap, ◌∙◌, append_assoc, IfSome}
use Rattle.std.proofs.lemmas.List.{append-nil}
use Rattle.std.specs.List.{concat, FoldsTo}
use Rattle.std.specs.Fmt.{WritesText}
use Rattle.sd_io.specs.outside.Printed.{printed, Prints}
use Rattle.sd_io.specs.declared.outside.line_buffer.LineBuffer.{LineBuffer}

in_calls : (before : LineBuffer) (parts : List (List ℕ)) (after : LineBuffer) → FoldsTo Prints before parts after
    → printed after ≡ printed before ++ concat parts
in_calls before [] after calls = sym (ap printed calls) ∙ sym (append-nil (printed before))
in_calls before (part ∷ parts) after (next, first, later) =
    in_calls next parts after later ∙ ap (λ (bytes : List ℕ). bytes ++ concat parts) first ∙ append_assoc (printed before) part (concat parts)

pub printed_text : (before after : LineBuffer) (text : Option (List ℕ)) → WritesText Prints before text after
    → IfSome text (λ bytes. printed after ≡ printed before ++ bytes)
printed_text before after None writes = tt
printed_text before after (Some bytes) writes = in_calls before writes.parts after writes.calls ∙ ap (λ (more : List ℕ). printed before ++ more) writes.whole
