-- The laws of spans as clauses on what is answered.
use Rattle.std.specs.Prelude.{◌≡◌, ℕ, Result, Ok, Err, IfOk}
use Rattle.std.proofs.Common.{inl, inr, sym, ◌∙◌}
use Rattle.sd_num.specs.declared.Rates.{Rates}
use Rattle.sd_commands.specs.declared.exchanges.Exchange.{Exchange}
use Rattle.sd_commands.specs.declared.exchanges.Span.{Span}
use Rattle.sd_commands.specs.declared.exchanges.ExchangeFault.{ExchangeFault}
use Rattle.sd_commands.specs.declared.exchanges.ExchangeFault.TheVariants.{Backwards, Impossible}
use Rattle.sd_commands.specs.exchanges.Spans.{span_of, IsHonestRun, Covers}
use Rattle.sd_commands.proofs.exchanges.Covering.{span_covers, none_is_honest}

pub covers_result : (first second : Rates) (x : Exchange) (result : Result Span ExchangeFault) → result ≡ span_of first second x
    → IfOk result (Covers first second x)
covers_result first second x (Ok span) same = span_covers first second x span (sym same)
covers_result first second x (Err why) same = tt

pub none_backwards : (first second : Rates) (x : Exchange) (result : Result Span ExchangeFault) → result ≡ span_of first second x → result ≡ Err Backwards
    → (r1 r2 r3 r4 : ℕ) → IsHonestRun first second x r1 r2 r3 r4 → ⊥
none_backwards first second x result same is r1 r2 r3 r4 run = none_is_honest first second x r1 r2 r3 r4 (inl (sym same ∙ is)) run

pub none_impossible : (first second : Rates) (x : Exchange) (result : Result Span ExchangeFault) → result ≡ span_of first second x → result ≡ Err Impossible
    → (r1 r2 r3 r4 : ℕ) → IsHonestRun first second x r1 r2 r3 r4 → ⊥
none_impossible first second x result same is r1 r2 r3 r4 run = none_is_honest first second x r1 r2 r3 r4 (inr (sym same ∙ is)) run
