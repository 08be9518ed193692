-- The headers of a work by the numbers of their ports.
use Rattle.std.specs.Prelude.{◌≡◌, ℕ, ◌+◌, ◌<◌, ◌≤◌, false, List, [], ◌∷◌, Option, Some, None, option_map, MatchOption}
use Rattle.part_api.specs.Terms.{Terms}
use Rattle.il_machine.specs.Stepping.{frames_at, is_last}
use Rattle.il_machine.specs.declared.header.HeaderState.{HeaderState}
use Rattle.header_core.specs.BufferHeader.{BufferHeader, is_clients}
use Rattle.port_stock.specs.Conditions.{IsHeaderOf}
pub use Rattle.work_landing.specs.Places.{EachAt, EachFrom, carried, carried_at, carried_from}

-- each header changed by its port
abbrev pub changed_from : (ℕ → BufferHeader → BufferHeader) → ℕ → List (Option BufferHeader) → List (Option BufferHeader)
changed_from f port [] = []
changed_from f port (place ∷ places) = option_map (f port) place ∷ changed_from f (port + 1) places

-- there are so many ports
abbrev pub AreWithin : ℕ → ℕ → List (Option BufferHeader) → Type 0
AreWithin count port places = EachFrom (λ port h. port < count) port places

-- so many frames are in each input's header, but for one that ends its stream without a frame, and fit into each output's
abbrev pub Offer : Terms → ℕ → ℕ → List (Option BufferHeader) → Type 0
Offer t frames port places = EachFrom (λ port h. is_last t 0 (carried port h) ≡ false → frames ≤ frames_at t (carried port h)) port places

-- the same header, whatever it carries
pub record IsSame (a b : BufferHeader) : Type 0 where
  pub key : b.key ≡ a.key
  pub number : b.held.number ≡ a.held.number
  pub size : b.held.size ≡ a.held.size
  pub memory : is_clients b.store ≡ is_clients a.store

abbrev pub IsSameAt : Option BufferHeader → Option BufferHeader → Type 0
IsSameAt None None = Unit {0}
IsSameAt (Some a) (Some b) = IsSame a b
IsSameAt None (Some b) = ⊥
IsSameAt (Some a) None = ⊥

-- the same headers at the same ports
abbrev pub AreSame : List (Option BufferHeader) → List (Option BufferHeader) → Type 0
AreSame [] [] = Unit {0}
AreSame (a ∷ as_before) (b ∷ bs) = IsSameAt a b × AreSame as_before bs
AreSame [] (b ∷ bs) = ⊥
AreSame (a ∷ as_before) [] = ⊥

-- Each header has the key, and the size and memory that are known of its number.
abbrev pub AreHeadersOf : ℕ → (ℕ → Option HeaderState) → ℕ → List (Option BufferHeader) → Type 0
AreHeadersOf key headers port places = EachFrom (λ port h. (h.key ≡ key) × MatchOption (headers h.held.number) ⊥ (λ s. IsHeaderOf s h)) port places
