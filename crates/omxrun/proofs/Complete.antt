-- What is printed where no count rises, and what is told once.
use Rattle.std.proofs.Common.{◌≡◌, inl, inr, ℕ, List, Option, Some, None, Result, Err, IsTrue, IsFalse, Bool, true, false, sym, ◌∙◌}
use Rattle.outside_io.specs.Causes.{Rose}
use Rattle.omx_types.specs.declared.fault.Fault.{Fault}
use Rattle.omx_types.specs.declared.fault.Fault.TheVariants as Faults
use Rattle.omx_types.specs.declared.fault.Status.{Status}
use Rattle.omx_types.specs.declared.fault.Status.TheVariants as Statuses
use Rattle.omx_types.specs.declared.fault.WavFault.{WavFault}
use Rattle.wav_form.specs.declared.heads.WavHead.{WavHead}
use Rattle.wav_form.specs.Reading.{Reads}
use Rattle.omxrun.specs.Reports.{IsPrinted, IsReported, status_of, outcome_text}
use Rattle.omxrun.specs.declared.done.Done.{Done}

-- a file reads as one answer
abbrev pub ReadsOnce : Type 0
ReadsOnce = (bytes : List ℕ) (one other : Result WavHead WavFault) → Reads bytes one → Reads bytes other → one ≡ other

pub printed-status : (wanted : Status) (text : List ℕ) (old new : Option (List ℕ)) (before now : ℕ) (status : Status) → (Rose before now → ⊥) → IsPrinted wanted text old new before now status → status ≡ wanted
printed-status wanted text old new before now status print (inl (is, _, _)) = is
printed-status wanted text old new before now status print (inr (_, rose, _)) = absurd (print rose)

pub told-status : (outcome : Result Done Fault) (old new : Option (List ℕ)) (before now : ℕ) (status : Status) → (Rose before now → ⊥) → IsReported outcome old new before now status → status ≡ status_of outcome
told-status outcome old new before now status print told = printed-status (status_of outcome) (outcome_text outcome) old new before now status print told

pub none-some : {A : Type 0} (a : A) (held : Option A) → held ≡ None → held ≡ Some a → ⊥
none-some a held p q = let e : None ≡ Some a = sym p ∙ q in cc

pub same-text : (a b : List ℕ) (held : Option (List ℕ)) → held ≡ Some a → held ≡ Some b → a ≡ b
same-text a b held p q = let e : Some a ≡ Some b = sym p ∙ q in cc

pub err-same : (a b : WavFault) (one : Result WavHead WavFault) → one ≡ Err a → one ≡ Err b → a ≡ b
err-same a b one p q = let e = sym p ∙ q in cc

pub true-false : (b : Bool) → IsTrue b → IsFalse b → ⊥
true-false true is not = cc
true-false false is not = cc

-- where a fault was to be told the status is none of a good end
pub not-done : (fault : Fault) (text : List ℕ) (old new : Option (List ℕ)) (before now : ℕ) (status : Status) → IsPrinted (Statuses.Fault fault) text old new before now status → status ≡ Statuses.Ok → ⊥
not-done fault text old new before now status (inl (same, _, _)) e = let s : Statuses.Ok ≡ Statuses.Fault fault = sym e ∙ same in absurd cc
not-done fault text old new before now status (inr (same, _, _)) e = let s : Statuses.Ok ≡ Statuses.Fault Faults.WriteFault = sym e ∙ same in absurd cc
