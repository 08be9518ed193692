-- What a region, its blocks and the bytes between them own. Each block has a name of two halves, which agree on whether the block is at
-- home: one stays with the region, the other goes with the block.
use Rattle.std.specs.Prelude.{refl, ℕ, zero, suc, ◌+◌, Bool, true, false, List, [], ◌∷◌, length}
use Rattle.std.specs.Coded.{Coded, code_by, coded×, coded_list, coded_ℕ}
use mir.Syntax.{Ty, w8, ty_int, ty_array}
use base.Fraction.{full_share}
use base.Fml.{GName, Fml, ftrue, ffalse, fsep, fex, feq, fobs, fauth, froom}
use denote.Builtin.{u8, bool}
use denote.Array.{Array}
use denote.RawPtr.{Ptr, coded_ptr, lies_at, room_for}
use denote.RawPtr.Bytes.{bytes}
use Rattle.block_region.specs.Regions.{RegionKey}

-- where a `Vec`'s memory begins, and for how many bytes it has room
pub record Extent : Type 0 where
  pub ptr : Ptr
  pub len : ℕ

-- it is stored as the pair of its fields
abbrev pub extent_code : Coded Extent
extent_code = code_by (Ptr × ℕ) (coded× coded_ptr coded_ℕ) (λ e. (e.ptr, e.len)) (λ p. record { ptr = p.0; len = p.1 }) (λ _. refl)

-- the bytes xs lie at p
abbrev pub run_owns : Ptr → List ℕ → Fml
run_owns p xs = lies_at (Array u8 (length xs)) full_share p xs

-- n bytes
abbrev space : ℕ → Ty
space n = ty_array (ty_int w8) n

-- room for n bytes at p, of which none need be written
abbrev pub room_owns : Ptr → ℕ → Fml
room_owns p n = room_for (space n) p

-- the same at o in the object b
abbrev pub unwritten : ℕ → ℕ → ℕ → Fml
unwritten n b o = froom (space n) b o

-- n bytes, whatever they are, lie at o in the object b
abbrev pub room_of : ℕ → ℕ → ℕ → Fml
room_of n b o = fex (List ℕ) (λ xs. fsep (feq ℕ (length xs) n) (bytes full_share xs b o))

-- the half of a name that goes with its block
abbrev pub goes : GName → Bool → Fml
goes γ home = fobs γ (bool.coded.code home)

-- the half that stays
abbrev pub stays : GName → Bool → Fml
stays γ home = fauth γ (bool.coded.code home)

-- the bytes of a block are with the region exactly where it is at home
abbrev pub entry : ℕ → GName → Bool → ℕ → ℕ → Fml
entry size γ true b o = fsep (stays γ true) (room_of size b o)
entry size γ false b o = stays γ false

-- a block that never was out: both halves of its name, and its room
abbrev pub unused : ℕ → GName → ℕ → ℕ → Fml
unused size γ b o = fsep (goes γ true) (fsep (stays γ true) (unwritten size b o))

-- the blocks side by side; those behind the end of the list never were out
abbrev pub entries : ℕ → List GName → List Bool → ℕ → ℕ → Fml
entries size [] [] b o = ftrue
entries size [] (h ∷ hs) b o = ffalse
entries size (γ ∷ gs) [] b o = fsep (unused size γ b o) (entries size gs [] b (o + size))
entries size (γ ∷ gs) (h ∷ hs) b o = fsep (entry size γ h b o) (entries size gs hs b (o + size))

-- what a region owns of its blocks
abbrev pub at_home : RegionKey → List Bool → Fml
at_home k hs = entries k.size k.names hs k.object k.start

-- what goes with the block of this number
abbrev pub ticket : List GName → ℕ → Bool → Fml
ticket [] n home = ffalse
ticket (γ ∷ gs) zero home = goes γ home
ticket (γ ∷ gs) (suc n) home = ticket gs n home

-- a key is stored as the tuple of its fields
abbrev pub key_code : Coded RegionKey
key_code =
    code_by (ℕ × (ℕ × (ℕ × List ℕ))) (coded× coded_ℕ (coded× coded_ℕ (coded× coded_ℕ (coded_list coded_ℕ)))) (λ k. (k.object, (k.start, (k.size, k.names))))
    (λ p. record { object = p.0; start = p.1.0; size = p.1.1.0; names = p.1.1.1 }) (λ _. refl)
