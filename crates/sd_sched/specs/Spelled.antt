-- The line that an event is printed as, and the limits of its numbers.
use Rattle.std.specs.Prelude.{ℕ, Bool, ◌&&◌, List, ◌∷◌, map, nat_le, codes, decimal, []}
use Rattle.std.specs.List.{join_with_byte, list_all, list_any}
use Rattle.sd_sched.specs.declared.Event.{Event}
use Rattle.sd_sched.specs.declared.Event.TheVariants.{Start, Tick, Recv, Lose, FailDevice, FailLink, Fix, Ask, Stage, Give, Commit, Seal, Join, MendDevice, MendLink, End}
use Rattle.sd_sched.specs.declared.words.Field.TheVariants.{Amount, Which}
use Rattle.sd_sched.specs.Lines.{words, same_bytes, limit}

-- the bytes spell one of the words
unfoldable pub is_word : List ℕ → Bool
is_word bytes = list_any (λ w. same_bytes w.spelled bytes) words

-- the fields of an event's line
abbrev pub spelled_fields : Event → List (List ℕ)
spelled_fields (Start reference device counter clock eps) = codes "start" ∷ map decimal (reference ∷ device ∷ counter ∷ clock ∷ eps ∷ [])
spelled_fields (Tick reference device counter) = codes "tick" ∷ map decimal (reference ∷ device ∷ counter ∷ [])
spelled_fields (Recv reference device counter message) = codes "recv" ∷ map decimal (reference ∷ device ∷ counter ∷ message ∷ [])
spelled_fields (Lose reference message) = codes "lose" ∷ map decimal (reference ∷ message ∷ [])
spelled_fields (FailDevice reference device) = codes "fail" ∷ decimal reference ∷ codes "device" ∷ decimal device ∷ []
spelled_fields (FailLink reference link) = codes "fail" ∷ decimal reference ∷ codes "link" ∷ decimal link ∷ []
spelled_fields (Fix reference device counter clock eps) = codes "fix" ∷ map decimal (reference ∷ device ∷ counter ∷ clock ∷ eps ∷ [])
spelled_fields (Ask reference device counter) = codes "ask" ∷ map decimal (reference ∷ device ∷ counter ∷ [])
spelled_fields (Stage reference) = codes "stage" ∷ map decimal (reference ∷ [])
spelled_fields (Give reference device) = codes "give" ∷ map decimal (reference ∷ device ∷ [])
spelled_fields (Commit reference device counter) = codes "commit" ∷ map decimal (reference ∷ device ∷ counter ∷ [])
spelled_fields (Seal reference device) = codes "seal" ∷ map decimal (reference ∷ device ∷ [])
spelled_fields (Join reference device counter clock eps) = codes "join" ∷ map decimal (reference ∷ device ∷ counter ∷ clock ∷ eps ∷ [])
spelled_fields (MendDevice reference device) = codes "mend" ∷ decimal reference ∷ codes "device" ∷ decimal device ∷ []
spelled_fields (MendLink reference link) = codes "mend" ∷ decimal reference ∷ codes "link" ∷ decimal link ∷ []
spelled_fields (End reference) = codes "end" ∷ map decimal (reference ∷ [])

-- the line of an event, without its newline
unfoldable pub line_of_event : Event → List ℕ
line_of_event e = join_with_byte 32 (spelled_fields e)

-- the numbers of an event are within the limits of their fields
abbrev pub is_within : Event → Bool
is_within (Start reference device counter clock eps) = nat_le device (limit Which)
    && list_all (λ n. nat_le n (limit Amount)) (reference ∷ counter ∷ clock ∷ eps ∷ [])
is_within (Tick reference device counter) = nat_le device (limit Which) && list_all (λ n. nat_le n (limit Amount)) (reference ∷ counter ∷ [])
is_within (Recv reference device counter message) = nat_le device (limit Which) && list_all (λ n. nat_le n (limit Amount)) (reference ∷ counter ∷ message ∷ [])
is_within (Lose reference message) = list_all (λ n. nat_le n (limit Amount)) (reference ∷ message ∷ [])
is_within (FailDevice reference device) = nat_le device (limit Which) && nat_le reference (limit Amount)
is_within (FailLink reference link) = nat_le link (limit Which) && nat_le reference (limit Amount)
is_within (Fix reference device counter clock eps) = nat_le device (limit Which)
    && list_all (λ n. nat_le n (limit Amount)) (reference ∷ counter ∷ clock ∷ eps ∷ [])
is_within (Ask reference device counter) = nat_le device (limit Which) && list_all (λ n. nat_le n (limit Amount)) (reference ∷ counter ∷ [])
is_within (Stage reference) = nat_le reference (limit Amount)
is_within (Give reference device) = nat_le device (limit Which) && nat_le reference (limit Amount)
is_within (Commit reference device counter) = nat_le device (limit Which) && list_all (λ n. nat_le n (limit Amount)) (reference ∷ counter ∷ [])
is_within (Seal reference device) = nat_le device (limit Which) && nat_le reference (limit Amount)
is_within (Join reference device counter clock eps) = nat_le device (limit Which)
    && list_all (λ n. nat_le n (limit Amount)) (reference ∷ counter ∷ clock ∷ eps ∷ [])
is_within (MendDevice reference device) = nat_le device (limit Which) && nat_le reference (limit Amount)
is_within (MendLink reference link) = nat_le link (limit Which) && nat_le reference (limit Amount)
is_within (End reference) = nat_le reference (limit Amount)
