-- What a step makes of each header of a work, and where it lands: in a play it goes on, or is worked on again.
use Rattle.std.proofs.Common.{◌≡◌, ℕ, suc, Bool, true, false, not, ◌&&◌, ◌||◌, if◌then◌else◌, List, [], ◌∷◌, map, slice_get, Option, Some, None, refl, sym, ◌∙◌, ap}
use Rattle.std.specs.List.{list_all}
use Rattle.il_machine.specs.declared.header.Spot.{Spot}
use Rattle.il_machine.specs.declared.header.Spot.TheVariants as spots
use Rattle.il_machine.specs.declared.port.Mark.{Mark}
use Rattle.il_machine.specs.Lists.{holds_at}
use Rattle.il_machine.specs.World.{Component, HeaderRecord, Load, Stream, number_of, same_handle}
use Rattle.il_machine.specs.Headers.{put, loaded}
use Rattle.il_machine.specs.Components.{has_eos}
use Rattle.il_machine.specs.Claims.{CarriedHeader}
use Rattle.il_machine.specs.Stepping.{WorkDone, eos_flags}
use Rattle.il_machine.specs.Finishing.{Again, Onward, Noted, is_an_input, is_finished, is_returning, is_tunnelled, landing, carries_on, mark_in, load_after, key_at, landed_at, all_landed}
use Rattle.machine_laws.proofs.Finding.{either}
use Rattle.play_world_laws.proofs.Folds.{all_made}

-- ---- a header that is put in its port

pub record Landed : Type 0 where
  pub port : ℕ
  pub number : ℕ
  pub spot : Spot
  pub load : Load

abbrev pub put_one : ℕ → Landed → List HeaderRecord → List HeaderRecord
put_one k z hs = put (record { component = k; port = z.port }) z.spot z.number (loaded z.load) hs

abbrev pub spot_by : Bool → Spot
spot_by true = spots.DoneBack
spot_by false = spots.TodoFront

abbrev pub as_landed : Component → Stream → WorkDone → CarriedHeader → Landed
as_landed a s done y = record { port = y.port; number = y.header.number; spot = spot_by (is_finished a s done y); load = load_after a s done y }

-- a header of a tunnel's port that isn't returning
landed_one : (a : Component) (s : Stream) (done : WorkDone) (y : CarriedHeader) (hs : List HeaderRecord) → is_tunnelled a y ≡ true → is_returning a y ≡ false
    → landed_at (landing a s done y) a y (load_after a s done y) hs ≡ put_one (number_of a) (as_landed a s done y) hs
landed_one a s done y hs t r =
    let load : Load = load_after a s done y in
    either (is_finished a s done y)
    (λ f.
    (λ i. landed_at (if not (t i) && (f i || r i) then Noted else if f i && not (r i) then Onward else Again) a y load hs)
    ∙ sym (ap (λ (q : Bool). put (key_at a y) (spot_by q) y.header.number (loaded load) hs) f))
    (λ f.
    (λ i. landed_at (if not (t i) && (f i || r i) then Noted else if f i && not (r i) then Onward else Again) a y load hs)
    ∙ sym (ap (λ (q : Bool). put (key_at a y) (spot_by q) y.header.number (loaded load) hs) f))

pub all_put : (a : Component) (s : Stream) (done : WorkDone) (ys : List CarriedHeader) (hs : List HeaderRecord) → ((j : ℕ) (y : CarriedHeader) → slice_get ys j ≡ Some y → (is_tunnelled a y ≡ true) × (is_returning a y ≡ false))
    → all_landed a s done ys hs ≡ all_made (put_one (number_of a)) (map (as_landed a s done) ys) hs
all_put a s done [] hs h = refl
all_put a s done (y ∷ ys) hs h =
    let k = h 0 y refl in
    ap (all_landed a s done ys) (landed_one a s done y hs k.0 k.1) ∙ all_put a s done ys (put_one (number_of a) (as_landed a s done y) hs) (λ j u e. h (suc j) u e)

pub mark_none : (a : Component) (s : Stream) (done : WorkDone) (ys : List CarriedHeader) → ((j : ℕ) (y : CarriedHeader) → slice_get ys j ≡ Some y → y.header.mark ≡ None) → mark_in a s done ys ≡ None
mark_none a s done [] h = refl
mark_none a s done (y ∷ ys) h =
    let none : carries_on a s done y ≡ false = ap (λ (o : Option Mark). is_an_input a y && is_finished a s done y && holds_at o (λ mark. not (same_handle mark.target a.handle))) (h 0 y refl) ∙ and_none (is_an_input a y && is_finished a s done y) in
    ap (λ (q : Bool). if q then y.header.mark else mark_in a s done ys) none ∙ mark_none a s done ys (λ j u e. h (suc j) u e)
  where
    and_none : (q : Bool) → (q && false) ≡ false
    and_none true = refl
    and_none false = refl

pub eos_is : (q : Bool) → has_eos (eos_flags q) ≡ q
eos_is true = refl
eos_is false = refl

pub list_all_alike : {X Y : Type 0} (p : Y → Bool) (q : X → Bool) (h : X → Y) (xs : List X) → ((i : ℕ) (y : X) → slice_get xs i ≡ Some y → p (h y) ≡ q y) → list_all p (map h xs) ≡ list_all q xs
list_all_alike p q h [] f = refl
list_all_alike p q h (y ∷ xs) f =
    let a = f 0 y refl in
    let b = list_all_alike p q h xs (λ i z e. f (suc i) z e) in
    λ i. a i && b i
