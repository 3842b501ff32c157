use Rattle.std.proofs.Common.{◌≡◌, ◌≢◌, ◌∙◌, sym, ap, arith, length, get_or, [], ◌+◌, true, false}
use Rattle.sd_num.specs.Lists.{map_or}
use Rattle.sd_sched.specs.Reading.{fault_of, reported_first}
use Rattle.sd_sched.specs.declared.LineFault.{LineFault}
use Rattle.sd_sched.specs.declared.words.Field.TheVariants.{Amount}
use Rattle.sd_sched.proofs.Join.{ReadTo-none, ReadTo-number, ReadTo-fault, ReadTo-short, ReadTo-long, ReadTo-within}
use Rattle.sd_sched.proofs.fields.read_fields.Goals as goal
use Rattle.sd_sched.proofs.fields.read_fields.Goals.{in-Some-number, in-None}

pub loop-place-init : goal.loop-place-init
loop-place-init c = ReadTo-none c.args.shape.now c.args.behind.now

pub returns-in_default-clause-fault : goal.returns-in_default-clause-fault
returns-in_default-clause-fault c =
    ReadTo-short _ _ _ _ _ _ c.loop-place.invariant c.loop-place-test.true c.in_default.ensures.none

pub loop-place-preserved : goal.loop-place-preserved
loop-place-preserved c =
    let found = c.read_field-found in
    let read = c.loop-place.invariant in
    elim c.match-found.branch [
      | in-Some-number w ↦
          rw (w.numbers-is, w.fault-is)
          (ReadTo-number _ _ _ _ _ _ c.in-Some.bytes.now _ _ read c.requires c.loop-place-test.true c.in-Some.ensures.more
          (sym w.in-Some-number.is ∙ found.ensures.number) (rw w.in-Some-number.is at found.ensures.within) found.ensures.left)
      | in-None w ↦
          let field = get_or c.args.shape.now c.loop-place.place Amount in
          let fault : w.reported_first.result ≡ map_or c.loop-place.fault (fault_of field (c.loop-place.place + 1))
          (λ f. reported_first f (fault_of field (c.loop-place.place + 1))) =
          w.reported_first.ensures ∙ ap (λ (g : LineFault). map_or c.loop-place.fault g (λ f. reported_first f g)) w.fault_of.ensures in
          rw (w.numbers-is, w.fault-is, fault)
          (ReadTo-fault _ _ _ _ _ _ c.in-Some.bytes.now _ read c.loop-place-test.true c.in-Some.ensures.more
          (sym w.in-None.is ∙ found.ensures.number) found.ensures.left)
    ]

pub returns-then-not-is_empty-clause-fault : goal.returns-then-not-is_empty-clause-fault
returns-then-not-is_empty-clause-fault c =
    let more : c.loop-place.left.now ≢ [] =
    λ none. let empty : length c.loop-place.left.now ≡ 0 = ap length none in
    let told : true ≡ false = sym (rw empty at c.is_empty.ensures) ∙ c.if-not-is_empty.true in cc in
    ReadTo-long _ _ _ _ _ _ c.loop-place.invariant c.loop-place-test.false more

pub returns-in-None-fault-clause-within : goal.returns-in-None-fault-clause-within
returns-in-None-fault-clause-within c =
    let all : c.loop-place.place ≡ length c.args.shape.now = omega (arith, c.loop-place-test.false, c.loop-place.auto.place-end) in
    ReadTo-within _ _ _ _ _ (rw c.in-None-fault.is at c.loop-place.invariant) all
