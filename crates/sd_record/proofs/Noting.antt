-- What a recorder notes of a message that it has found.
use Rattle.std.specs.Prelude.{◌≡◌, ◌⊎◌, ℕ, true, Result, Ok, Err, OnOk, refl}
use Rattle.std.proofs.Common.{sym, ◌∙◌, ap, subst, inl, inr}
use Rattle.sd_device.specs.declared.msg.Flight.{Flight}
use Rattle.sd_device.specs.declared.msg.TakeFault.{TakeFault}
use Rattle.sd_record.specs.Endings.{Lists}
use Rattle.sd_record.specs.Names.{flight_name, has_message}
use Rattle.sd_record.specs.Noting.{HasNoted}
use Rattle.sd_record.specs.declared.endings.Endings.{Endings}
use Rattle.sd_record.specs.declared.endings.NamedEnding.{NamedEnding}
use Rattle.sd_record.specs.declared.logs.MessageName.{MessageName}
use Rattle.sd_record.specs.declared.names.NamedMessage.{NamedMessage}
use Rattle.sd_record.specs.declared.names.Names.{Names}
use Rattle.sd_record.specs.declared.recorder.Recorder.{Recorder}

module _ (f : Flight) (name : MessageName) where
  abbrev pub its_ending : NamedEnding
  its_ending = record { ending = record { last = f.last; number = f.number }; name = name }

  abbrev pub its_message : NamedMessage
  its_message = record { name = name; number = f.number }

-- its ending was listed, and where there was room it is kept by its name
pub has_noted : {T E : Type 0} (number : ℕ) (f : Flight) (found : Result Flight TakeFault) (old : Recorder) (endings : Endings) (names : Names)
    (name : MessageName) (r : Result T E)
    → found ≡ Ok f
    → name ≡ flight_name f
    → Lists endings (its_ending f name)
    → ((ending : NamedEnding) → Lists old.endings ending → Lists endings ending)
    → ((ending : NamedEnding) → Lists endings ending → Lists old.endings ending ⊎ (its_ending f name ≡ ending))
    → OnOk r (has_message names name f.number ≡ true)
    → OnOk r ((its : MessageName) (n : ℕ) → has_message old.names its n ≡ true → has_message names its n ≡ true)
    → OnOk r ((its : MessageName) (n : ℕ) → has_message names its n ≡ true
    → (has_message old.names its n ≡ true) ⊎ (its_message f name ≡ record { name = its; number = n }))
    → OnOk r (HasNoted number found old (record old { looked = number; endings = endings; names = names }))
has_noted number f found old endings names name (Err why) is called listed kept only named kept' only' = tt
has_noted number f found old endings names name (Ok done) is called listed kept only named kept' only' =
    subst (λ (r : Result Flight TakeFault). HasNoted number r old (record old { looked = number; endings = endings; names = names })) (sym is)
    (record {
      looked = refl;
      listed = subst (λ (n : MessageName). Lists endings (its_ending f n)) called listed;
      named = subst (λ (n : MessageName). has_message names n f.number ≡ true) called named;
      endings = kept;
      names = kept';
      only_endings = λ ending there. elim (only ending there) [
        | inl before ↦ inl before
        | inr new ↦ inr (ap (its_ending f) (sym called) ∙ new)
      ];
      only_names = λ its n there. elim (only' its n there) [
        | inl before ↦ inl before
        | inr new ↦ inr (ap (its_message f) (sym called) ∙ new)
      ];
      fleet = refl;
    })
