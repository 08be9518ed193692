-- What an act keeps that moves no bytes.
use Rattle.std.proofs.Common.{◌≡◌, ℕ, ◌<◌, List, [], ◌∷◌, length, slice_get, Option, Some, None, option_map, refl, sym, ◌∙◌, ap, arith}
use Rattle.part_api.specs.Terms.{Terms}
use Rattle.il_machine.specs.Parts.{terms_of}
use Rattle.il_machine.specs.World.{Component, PartState, World, number_of}
use Rattle.play_world_laws.specs.Cast.{Cast, links_of}
use Rattle.play_stream_laws.specs.Flowing.{flowing_in}

-- what a component is set to, and its number
abbrev pub seat : Component → Terms × ℕ
seat a = (terms_of a, number_of a)

abbrev pub part_in : Component → PartState
part_in a = a.part

-- what went through the files stays, and what the components are set to
pub record Keeps (w v : World) : Type 0 where
  pub streams : v.streams ≡ w.streams
  pub seats : (i : ℕ) → option_map seat (slice_get v.components i) ≡ option_map seat (slice_get w.components i)

-- and the bytes on their way, and which parts have ended
pub record KeepsFlow (x : Cast) (w v : World) : Type 0 where
  pub bytes : (l : ℕ) → l < links_of x → flowing_in x v l ≡ flowing_in x w l
  pub parts : (i : ℕ) → option_map part_in (slice_get v.components i) ≡ option_map part_in (slice_get w.components i)

pub mapped_there : {X Y : Type 0} (f : X → Y) (o q : Option X) (b : X) → option_map f o ≡ option_map f q → o ≡ Some b → (a : X) × (q ≡ Some a) × (f b ≡ f a)
mapped_there f None q b e h = absurd cc
mapped_there f (Some y) None b e h = absurd cc
mapped_there f (Some y) (Some a) b e h = let s : y ≡ b = cc in let t : f y ≡ f a = cc in (a, refl, ap f (sym s) ∙ t)

pub no_bytes : (xs : List ℕ) → length xs ≡ 0 → xs ≡ []
no_bytes [] h = refl
no_bytes (x ∷ xs) h = absurd (omega arith)
