-- What a clause says of a turnstile and of its passes.
use Rattle.std.specs.Prelude.{◌≡◌, ℕ, ◌≤◌, ◌<◌, ◌^◌, List, [], ◌∷◌, ◌++◌, length, Bool, true, false, Option, Some, None}
use Rattle.turnstile.specs.declared.entry.Entry.{Entry}
use Rattle.turnstile.specs.declared.view.View.{View}
use Rattle.turnstile.specs.declared.view.Stage.TheVariants.{Ready}
use Rattle.turnstile.specs.declared.turnstile.Pass.{Pass}
use Rattle.turnstile.specs.declared.turnstile.Turnstile.{Turnstile}
use mathlib.Core.Option.{some}
use lib.ListN.{get_elem?}
use Rattle.turnstile.specs.Entries.{Begins, entry, own, Met, Due}
use Rattle.turnstile.specs.Turns.{History, entered, left}

-- a ticket past the last place: all 2^50 places were given
abbrev pub IsPastPlaces : Option ℕ → Type 0
IsPastPlaces o = (t : ℕ) × (o ≡ Some t) × (2 ^ 50 ≤ t)

-- a pass that was refused keeps the tickets for which there was no place
abbrev pub TicketIs : Bool → Option ℕ → Type 0
TicketIs true o = IsPastPlaces o
TicketIs false o = o ≡ None

module _ {V A R : Type 0} where
  abbrev pub opening_of : Turnstile V A R → V
  opening_of t = t.table.shared.key

  abbrev pub view : Pass V A R → View V A R
  view p = p.seat.me.0

  -- the calls that the pass has seen, and its own
  abbrev pub seen : Pass V A R → List (Entry A R)
  seen p = p.seat.me.0.seen

  abbrev pub own_calls : Pass V A R → List (Entry A R)
  own_calls p = p.seat.me.0.mine

  -- the pass is not in a turn
  abbrev pub IsIdle : View V A R → Type 0
  IsIdle v = (v.stage ≡ Ready) × (v.spent ≡ false) × (v.inside ≡ false)

  abbrev pub IsPassOf : Turnstile V A R → Pass V A R → Type 0
  IsPassOf t p = (p.seat.table_id ≡ t.table.shared.table_id) × (p.seat.me.1 ≡ []) × IsIdle p.seat.me.0 × (p.seat.me.0.opening ≡ Some t.table.shared.key) × TicketIs p.refused p.seat.me.0.ticket

  -- the same pass, which has split and joined as many
  abbrev pub IsSamePass : View V A R → View V A R → Type 0
  IsSamePass v w = (w.number ≡ v.number) × (w.splits ≡ v.splits) × (w.joined ≡ v.joined)

module _ {V A R : Type 0} (legal : V → List (Entry A R) → Type 0) (may : V → List (Entry A R) → A → Type 0) where
  -- the history has the call at its end, and is legal. It begins with all that the pass had seen, and has of the pass its own calls
  pub record Called (first : V) (v : View V A R) (act : A) (place : ℕ) (reply : R) (w : View V A R) : Type 0 where
    pub had_none : v.ticket ≡ None
    pub before : List (Entry A R)
    pub is_seen : w.seen ≡ before ++ entry v.number act reply ∷ []
    pub at_place : place ≡ length before
    pub in_time : place < 2 ^ 50
    pub earlier : Begins v.seen before
    pub is_legal : legal first w.seen
    pub met : Met (may first) w.seen
    pub added : w.mine ≡ v.mine ++ entry v.number act reply ∷ []
    pub mine : own v.number w.seen ≡ w.mine

  -- the root has joined a pass. It has then seen one legal history that begins with all that either had seen, and has the calls of both
  pub record Joined (first : V) (v w u : View V A R) : Type 0 where
    pub is_legal : legal first u.seen
    pub met : Met (may first) u.seen
    pub earlier : Begins v.seen u.seen
    pub theirs : Begins w.seen u.seen
    pub mine : own v.number u.seen ≡ v.mine
    pub joined : (i : ℕ) (x : ℕ × List (Entry A R)) → get_elem? u.joined i ≡ some x → own x.0 u.seen ≡ x.1

  -- the seat has the value, and the whole history
  abbrev pub Entered : (V → List (Entry A R) → V → Type 0) → A → ℕ → View V A R × List (ℕ × Option V) → View V A R × List (ℕ × Option V) → Type 0
  Entered reaches act place m m' =
      (log : List (Entry A R)) × (y : V) × (m' ≡ (entered m.0 log (Some act), (0, Some y) ∷ [])) × (length log ≡ place) × (h : History legal may m.0 log) × reaches h.first log y

  -- the seat is in its turn: it has the value, and its act comes next
  pub record InTurn (reaches : V → List (Entry A R) → V → Type 0) (act : A) (place : ℕ) (m : View V A R × List (ℕ × Option V)) : Type 0 where
    pub first : V
    pub value : V
    pub opening : m.0.opening ≡ Some first
    pub holds : m.1 ≡ (0, Some value) ∷ []
    pub mine : own m.0.number m.0.seen ≡ m.0.mine
    pub due : Due legal reaches may first m.0.seen m.0.number value act place

  -- the call was served
  pub record Served (reaches : V → List (Entry A R) → V → Type 0) (act : A) (reply : R) (m m' : View V A R × List (ℕ × Option V)) : Type 0 where
    pub same : m'.0 ≡ m.0
    pub first : V
    pub value : V
    pub opening : m.0.opening ≡ Some first
    pub holds : m'.1 ≡ (0, Some value) ∷ []
    pub is_legal : legal first (m.0.seen ++ entry m.0.number act reply ∷ [])
    pub stood : reaches first (m.0.seen ++ entry m.0.number act reply ∷ []) value

  -- the seat has had its turn at the place: it has seen the history so far, and its call behind that
  pub record HadTurn (first : V) (v : View V A R) (act : A) (place : ℕ) (reply : R) (w : View V A R) : Type 0 where
    pub before : List (Entry A R)
    pub is_left : w ≡ left (entered v before (Some act)) (entry v.number act reply)
    pub at_place : place ≡ length before
    pub earlier : Begins v.seen before
    pub is_legal : legal first (before ++ entry v.number act reply ∷ [])
    pub met : Met (may first) (before ++ entry v.number act reply ∷ [])
    pub mine : own v.number (before ++ entry v.number act reply ∷ []) ≡ v.mine ++ entry v.number act reply ∷ []
