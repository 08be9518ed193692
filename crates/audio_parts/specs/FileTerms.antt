-- What is told by the terms of a part: which file it writes, and which faults it may have.
use Rattle.std.specs.Prelude.{◌≡◌, ℕ, true, [], ◌∷◌, Option, None, Some}
use Rattle.omx_types.specs.declared.fault.PartFault.{PartFault}
use Rattle.omx_types.specs.declared.fault.PartFault.TheVariants.{Read, Write, Short}
use Rattle.omx_types.specs.declared.kind.Kind.{Kind}
use Rattle.omx_types.specs.declared.kind.Kind.TheVariants.{Sink}
use Rattle.part_api.specs.declared.attached.Attached.TheVariants.{To}
use Rattle.part_api.specs.Terms.{Terms, Writing}
use Rattle.part_forms.specs.Kinds.{is_source}

-- a sink writes the planned frames in the format of its input; without such a file nothing is written
abbrev pub IsOfTerms : Terms → Option Writing → Type 0
IsOfTerms t None = (planned : ℕ) → t.file ≡ Some (To planned) → ⊥
IsOfTerms t (Some w) = (t.kind ≡ Sink) × (t.inputs ≡ w.format ∷ []) × (t.file ≡ Some (To w.planned))

-- a source's file fails to be read, a sink's to be written
abbrev pub IsOfKind : Kind → PartFault → Type 0
IsOfKind kind Read = is_source kind ≡ true
IsOfKind kind Write = kind ≡ Sink
IsOfKind kind (Short at size) = is_source kind ≡ true
