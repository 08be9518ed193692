-- A work that is out of a component of a play: its headers as they were claimed, and the links that they belong to.
use Rattle.std.proofs.Common.{◌≡◌, ℕ, zero, suc, true, List, [], ◌∷◌, slice_get, Some, refl, sym, ◌∙◌, ap}
use Rattle.il_machine.specs.declared.header.Owner.TheVariants as owners
use Rattle.il_machine.specs.declared.header.Queue.TheVariants.{Out}
use Rattle.il_machine.specs.World.{HeaderRecord, Picked, World}
use Rattle.il_machine.specs.Headers.{find_header, is_for}
use Rattle.il_machine.specs.Buffers.{held}
use Rattle.il_machine.specs.Claims.{CarriedHeader, carried}
use Rattle.play_world_laws.specs.Cast.{Cast}
use Rattle.play_world_laws.specs.Worlds.{IsWholeHeader}
use Rattle.play_world_laws.proofs.Picks.{pick_key}

-- ---- what a work carries

abbrev pub seen_as : Picked → HeaderRecord → CarriedHeader
seen_as y r = record { port = y.port; header = held r }

pub carried_at : (hs : List HeaderRecord) (xs : List Picked) → ((j : ℕ) (y : Picked) → slice_get xs j ≡ Some y → (r : HeaderRecord) × (find_header y.number hs ≡ Some r))
    → (j : ℕ) (y : Picked) (r : HeaderRecord) → slice_get xs j ≡ Some y → find_header y.number hs ≡ Some r → slice_get (carried hs xs) j ≡ Some (record { port = y.port; header = held r })
carried_at hs [] h j y r e f = absurd cc
carried_at hs (z ∷ xs) h zero y r e f = let s : z ≡ y = cc in let g : find_header z.number hs ≡ Some r = ap (λ (u : Picked). find_header u.number hs) s ∙ f in rw g (ap (λ (u : Picked). Some (record { port = u.port; header = held r })) s)
carried_at hs (z ∷ xs) h (suc j) y r e f = let k = h 0 z refl in rw k.1 (carried_at hs xs (λ i u g. h (suc i) u g) j y r e f)

pub carried_from : (hs : List HeaderRecord) (xs : List Picked) → ((j : ℕ) (y : Picked) → slice_get xs j ≡ Some y → (r : HeaderRecord) × (find_header y.number hs ≡ Some r))
    → (j : ℕ) (z : CarriedHeader) → slice_get (carried hs xs) j ≡ Some z → (y : Picked) × (r : HeaderRecord) × (slice_get xs j ≡ Some y) × (find_header y.number hs ≡ Some r) × (z ≡ record { port = y.port; header = held r })
carried_from hs [] h j z e = absurd cc
carried_from hs (u ∷ xs) h zero z e =
    let k = h 0 u refl in
    let y : CarriedHeader = record { port = u.port; header = held k.0 } in
    let f : Some y ≡ Some z = rw k.1 at e in
    let is : y ≡ z = cc in
    (u, k.0, refl, k.1, sym is)
carried_from hs (u ∷ xs) h (suc j) z e =
    let k = h 0 u refl in
    carried_from hs xs (λ i y f. h (suc i) y f) j z (rw k.1 at e)

-- ---- a header of the work

-- it is out, and of the link
pub record IsHeaderOf (x : Cast) (w : World) (c number : ℕ) (y : Picked) (l : ℕ) (r : HeaderRecord) : Type 0 where
  pub found : find_header y.number w.headers ≡ Some r
  pub owner : r.state.owner ≡ owners.Work number
  pub out : r.state.queue ≡ Out
  pub made : is_for (pick_key x c y) r.state ≡ true
  pub whole : IsWholeHeader x l r
