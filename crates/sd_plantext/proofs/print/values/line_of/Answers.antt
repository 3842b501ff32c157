use Rattle.std.proofs.Common.{◌≡◌, ◌++◌, ◌∷◌, [], ℕ, Some, ap, sym, ◌∙◌, subst, string_bytes}
use Rattle.std.specs.Prelude.{Vec}
use Rattle.std.specs.declared.alloc.Global.{Global}
use Rattle.std.proofs.lemmas.Str.{IsUtf8-string_bytes}
use Rattle.serde_json.specs.Read.{read}
use Rattle.serde_json.specs.View.{view}
use Rattle.serde_json.specs.Written.{compact_text}
use Rattle.sd_plantext.specs.Reading.{tree_of}
use Rattle.sd_plantext.proofs.Newline.{whole_value, line_read}
use Rattle.sd_plantext.proofs.print.values.line_of.Goals as goal

pub returns-clause-text : goal.returns-clause-text
returns-clause-text c =
    let shown = view c.args.value.now in
    subst (λ (v : Vec ℕ Global). v.items ≡ compact_text shown ++ 10 ∷ []) (sym c.into_bytes.ensures.value)
    (c.in_ok-push_str.ensures.bytes ∙ ap (λ t. t ++ 10 ∷ []) (c.in_ok-text.ensures.text (whole_value shown c.requires.plain)))

pub returns-clause-reads_back : goal.returns-clause-reads_back
returns-clause-reads_back c =
    let shown = view c.args.value.now in
    let compact = c.in_ok-text.ensures.text (whole_value shown c.requires.plain) in
    subst (λ (v : Vec ℕ Global). tree_of v.items ≡ Some shown) (sym c.into_bytes.ensures.value)
    (line_read (string_bytes c.push_str.new.self) shown (IsUtf8-string_bytes c.push_str.new.self) c.requires.plain
    (c.in_ok-push_str.ensures.bytes ∙ ap (λ t. t ++ 10 ∷ []) compact) (ap read (sym compact) ∙ c.in_ok-text.ensures.reads_back c.requires.depth))
