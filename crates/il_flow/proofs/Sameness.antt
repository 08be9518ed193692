-- A step leaves each header what it is, but for what it carries.
use Rattle.std.proofs.Common.{◌≡◌, ℕ, ◌+◌, Bool, true, false, List, [], ◌∷◌, length, refl, sym, subst, ◌∙◌, nat_lt, arith}
use Rattle.std.specs.Prelude.{Option, Some, None, MatchOption}
use Rattle.part_api.specs.Streams.{Incoming, Shape}
use Rattle.part_api.specs.Terms.{Terms}
use Rattle.il_machine.specs.declared.header.HeaderState.{HeaderState}
use Rattle.header_core.specs.declared.memory.Store.{Store}
use Rattle.header_core.specs.declared.memory.Store.TheVariants.{Own, Region}
use Rattle.header_core.specs.BufferHeader.{BufferHeader, is_clients, with_bytes}
use Rattle.port_stock.specs.Conditions.{IsHeaderOf}
use Rattle.il_flow.specs.Places.{AreHeadersOf, AreSame, AreWithin, IsSame, carried_from, changed_from}
use Rattle.il_flow.specs.Steps.{stepped_header}

same_store : (bytes : List ℕ) (store : Store) → is_clients (with_bytes bytes store) ≡ is_clients store
same_store bytes (Own old) = refl
same_store bytes (Region old) = refl

same_by : (t : Terms) (s : Shape) (n : ℕ) (came : Incoming) (over : Bool) (port : ℕ) (h : BufferHeader) (inside : Bool) → nat_lt port (length t.inputs) ≡ inside
    → IsSame h (stepped_header t s n came over port h)
same_by t s n came over port h true e = rw e (record { key = refl; number = refl; size = refl; memory = refl })
same_by t s n came over port h false e = rw e (record { key = refl; number = refl; size = refl; memory = same_store _ h.store })

pub all_same : (t : Terms) (s : Shape) (n : ℕ) (came : Incoming) (over : Bool) (port : ℕ) (places : List (Option BufferHeader)) → AreSame places (changed_from (stepped_header t s n came over) port places)
all_same t s n came over port [] = tt
all_same t s n came over port (None ∷ places) = (tt, all_same t s n came over (port + 1) places)
all_same t s n came over port (Some h ∷ places) = (same_by t s n came over port h (nat_lt port (length t.inputs)) refl, all_same t s n came over (port + 1) places)

pub itself : (places : List (Option BufferHeader)) → AreSame places places
itself [] = tt
itself (None ∷ places) = (tt, itself places)
itself (Some h ∷ places) = (record { key = refl; number = refl; size = refl; memory = refl }, itself places)

pub still_within : (f : ℕ → BufferHeader → BufferHeader) (count port : ℕ) (places : List (Option BufferHeader)) → AreWithin count port places → AreWithin count port (changed_from f port places)
still_within f count port [] h = tt
still_within f count port (None ∷ places) h = (tt, still_within f count (port + 1) places h.1)
still_within f count port (Some x ∷ places) h = (h.0, still_within f count (port + 1) places h.1)

-- ---- a header that is the same is as known as the other one

known_as : (x y : BufferHeader) (o : Option HeaderState) → IsSame x y → MatchOption o ⊥ (λ s. IsHeaderOf s x) → MatchOption o ⊥ (λ s. IsHeaderOf s y)
known_as x y None same h = absurd h
known_as x y (Some state) same h = record { size = same.size ∙ h.size; memory = same.memory ∙ h.memory }

pub known_same : (key : ℕ) (headers : ℕ → Option HeaderState) (port : ℕ) (a b : List (Option BufferHeader)) → AreSame a b → AreHeadersOf key headers port a → AreHeadersOf key headers port b
known_same key headers port [] [] same h = tt
known_same key headers port [] (y ∷ b) same h = absurd same
known_same key headers port (x ∷ a) [] same h = absurd same
known_same key headers port (None ∷ a) (None ∷ b) same h = (tt, known_same key headers (port + 1) a b same.1 h.1)
known_same key headers port (None ∷ a) (Some y ∷ b) same h = absurd same.0
known_same key headers port (Some x ∷ a) (None ∷ b) same h = absurd same.0
known_same key headers port (Some x ∷ a) (Some y ∷ b) same h = (
  (same.0.key ∙ h.0.0, subst (λ n. MatchOption (headers n) ⊥ (λ s. IsHeaderOf s y)) (sym same.0.number) (known_as x y (headers x.held.number) same.0 h.0.1)),
  known_same key headers (port + 1) a b same.1 h.1,
)

pub as_many : (port : ℕ) (a b : List (Option BufferHeader)) → AreSame a b → length (carried_from port b) ≡ length (carried_from port a)
as_many port [] [] same = refl
as_many port [] (y ∷ b) same = absurd same
as_many port (x ∷ a) [] same = absurd same
as_many port (None ∷ a) (None ∷ b) same = as_many (port + 1) a b same.1
as_many port (None ∷ a) (Some y ∷ b) same = absurd same.0
as_many port (Some x ∷ a) (None ∷ b) same = absurd same.0
as_many port (Some x ∷ a) (Some y ∷ b) same = let rest = as_many (port + 1) a b same.1 in omega (arith, rest)
