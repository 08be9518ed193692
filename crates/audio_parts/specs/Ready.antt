-- When a part's steps may begin.
use Rattle.std.specs.Prelude.{◌≡◌, ◌*◌, ◌≤◌, Bool, false, List, [], ◌∷◌, ◌++◌, Option, None, Some}
use Rattle.std.specs.List.{AllByRecursion}
use Rattle.omx_types.specs.declared.format.Format.{Format}
use Rattle.omx_types.specs.declared.kind.Kind.{Kind}
use Rattle.omx_types.specs.declared.kind.Kind.TheVariants.{Splitter}
use Rattle.omx_types.specs.Formats.{rate_of, channels_of, frame_bytes_of}
use Rattle.part_api.specs.declared.attached.Attached.{Attached}
use Rattle.part_api.specs.declared.attached.Attached.TheVariants.{From, To}
use Rattle.part_api.specs.Terms.{Terms}

-- two ports of a part fit: they have one rate and one number of channels, those of a splitter one format
abbrev pub Fit : Kind → Format → Format → Type 0
Fit (Splitter outputs) a b = a ≡ b
Fit _ a b = (rate_of a ≡ rate_of b) × (channels_of a ≡ channels_of b)

-- each port fits the first
abbrev pub AreFitting : Kind → List Format → Type 0
AreFitting kind [] = Unit {0}
AreFitting kind (first ∷ rest) = AllByRecursion (λ port. Fit kind port first) rest

-- the file of a source has its port's format; the planned frames of a sink have no more bytes than a WAV file may have
abbrev pub FitsFile : Terms → Option Attached → Type 0
FitsFile terms None = Unit {0}
FitsFile terms (Some (From format frames)) = AllByRecursion (λ port. format ≡ port) terms.outputs
FitsFile terms (Some (To frames)) = AllByRecursion (λ port. frames * frame_bytes_of port ≤ 134217728) terms.inputs

pub record IsReady (terms : Terms) (failed : Bool) : Type 0 where
  pub unfailed : failed ≡ false
  pub ports : AreFitting terms.kind (terms.inputs ++ terms.outputs)
  pub file : FitsFile terms terms.file
