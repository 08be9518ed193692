-- A region and its blocks as contracts see them.
use Rattle.std.specs.Prelude.{◌≡◌, ℕ, zero, suc, ◌+◌, ◌*◌, ◌≤◌, Bool, true, false, List, [], ◌∷◌, ◌++◌, length, replicate, take, drop}
use denote.RawPtr.{Ptr, block_ptr}

-- what a region and its blocks have in common: where the region's bytes lie, how many a block has, and one name for each block. No
-- caller can show that two regions have the same
pub record RegionKey : Type 0 where
  pub object : ℕ
  pub start : ℕ
  pub size : ℕ
  pub names : List ℕ

pub record RegionBlock : Type 0 where
  pub key : RegionKey
  -- which of the region's blocks it is: its bytes lie behind those of all blocks of smaller numbers
  pub number : ℕ
  pub bytes : List ℕ

pub record BlockRegion : Type 0 where
  pub key : RegionKey
  -- how many it has in all, at home and out
  pub blocks : ℕ
  -- of each block, by its number, whether it is at home
  pub home : List Bool
  -- how many are at home
  pub free : ℕ

abbrev pub is_home : List Bool → ℕ → Bool
is_home [] n = false
is_home (h ∷ hs) zero = h
is_home (h ∷ hs) (suc n) = is_home hs n

-- the same, but for the block n
abbrev pub marked : List Bool → ℕ → Bool → List Bool
marked [] n home = []
marked (h ∷ hs) zero home = home ∷ hs
marked (h ∷ hs) (suc n) home = h ∷ marked hs n home

-- how many are at home
abbrev pub homes : List Bool → ℕ
homes [] = zero
homes (true ∷ hs) = suc (homes hs)
homes (false ∷ hs) = homes hs

-- how many are out
abbrev pub outs : List Bool → ℕ
outs [] = zero
outs (true ∷ hs) = outs hs
outs (false ∷ hs) = suc (outs hs)

abbrev pub AllHome : BlockRegion → Type 0
AllHome r = r.free ≡ r.blocks

-- with every block at home
pub record IsFresh (blocks size : ℕ) (r : BlockRegion) : Type 0 where
  pub size_of_each : r.key.size ≡ size
  pub all_blocks : r.blocks ≡ blocks
  pub each_home : r.home ≡ replicate blocks true
  pub all_home : r.free ≡ blocks

-- one block fewer is at home, and that is b, which no one else had
pub record IsTaken (old : BlockRegion) (b : RegionBlock) (new : BlockRegion) : Type 0 where
  pub key : b.key ≡ old.key
  pub size : length b.bytes ≡ old.key.size
  pub same_key : new.key ≡ old.key
  pub same_blocks : new.blocks ≡ old.blocks
  pub was_home : is_home old.home b.number ≡ true
  pub now_out : new.home ≡ marked old.home b.number false
  pub one_fewer : new.free + 1 ≡ old.free

-- one block more is at home, and that is the block n
abbrev pub given_back : BlockRegion → ℕ → BlockRegion
given_back r n = record r { home = marked r.home n true; free = r.free + 1 }

-- the block with the front of its bytes written anew
abbrev pub rewritten : RegionBlock → List ℕ → RegionBlock
rewritten b written = record b { bytes = take (length b.bytes) (written ++ drop (length written) b.bytes) }

-- the bytes of the block of this number: where they lie, and how many they are
pub record IsOut (k : RegionKey) (number : ℕ) (p : Ptr) (n : ℕ) : Type 0 where
  pub one_of : number + 1 ≤ length k.names
  pub lies : p ≡ block_ptr k.object (k.start + number * k.size)
  pub size : n ≡ k.size
  pub some : 1 ≤ n
