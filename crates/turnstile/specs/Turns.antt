-- The rule of a turnstile's table, and what each of its steps tells.
-- Word 0 is the next ticket, and word 1 the ticket that is served, which is the length of the history. The slot has the value, unless a pass is inside.
use Rattle.std.specs.Prelude.{◌≡◌, ◌≢◌, ℕ, zero, suc, ◌+◌, ◌-◌, ◌<◌, ◌^◌, ◌≤◌, min, ltb, cond, ◌⊎◌, List, [], ◌∷◌, ◌++◌, length, true, false, Option, Some, None}
use mathlib.Core.Option.{some, none}
use mathlib.Core.Option as maybe
use lib.ListN.{get_elem?}
use Rattle.atomic_table.specs.Table.{State, Me, Step}
use Rattle.turnstile.specs.declared.entry.Entry.{Entry}
use Rattle.turnstile.specs.declared.view.View.{View}
use Rattle.turnstile.specs.declared.view.Stage.TheVariants.{Empty, Open, Ready}
use Rattle.turnstile.specs.Entries.{Begins, entry, own, Met}

-- the ticket is one of those that begin with this one and are so many more
abbrev pub IsAmong : Option ℕ → ℕ → ℕ → Type 0
IsAmong first more t = (n : ℕ) × (first ≡ Some n) × (n ≤ t) × (t ≤ n + more)

abbrev pub one_less : ℕ → ℕ
one_less zero = 0
one_less (suc n) = n

-- the first of the tickets, once that which was the first is used
abbrev pub ticket_after : Option ℕ → ℕ → Option ℕ
ticket_after None more = None
ticket_after (Some t) zero = None
ticket_after (Some t) (suc more) = Some (t + 1)

-- the most that one step draws, where the last of the tickets has no place
abbrev pub late : Option ℕ → ℕ → ℕ
late None more = 0
late (Some t) more = cond (ltb (t + more) (2 ^ 50)) 0 (2 ^ 16)

-- how many of the tickets have a place
abbrev pub placed : Option ℕ → ℕ → ℕ
placed None more = 0
placed (Some t) more = min (more + 1) (2 ^ 50 - t)

-- k of n tickets have a place
abbrev pub HavePlaces : ℕ → ℕ → Type 0
HavePlaces n k = (n ≤ 2 ^ 50 → k ≡ n) × (2 ^ 50 ≤ n → k ≡ 2 ^ 50)

module _ {V A R : Type 0} where
  -- the first pass, before the value is in its slot
  abbrev pub newborn : V → View V A R
  newborn o = record { stage = Empty; opening = Some o; number = 0; seen = []; also = []; mine = []; ticket = None; more = 0; inside = false; asked = None; splits = 0; joined = []; spent = false }

  abbrev pub opened : View V A R → View V A R
  opened v = record v { stage = Open }

  abbrev pub filled : View V A R → View V A R
  filled v = record v { stage = Ready }

  -- the first pass, once it is in
  abbrev pub rooted : V → View V A R
  rooted o = filled (opened (newborn o))

  -- it draws so many tickets in a row
  abbrev pub drawn : View V A R → ℕ → ℕ → View V A R
  drawn v n count = record v { ticket = Some n; more = one_less count }

  -- it has drawn the ticket and has not used it
  abbrev pub HasTicket : View V A R → ℕ → Type 0
  HasTicket v t = IsAmong v.ticket v.more t

  abbrev pub entered : View V A R → List (Entry A R) → Option A → View V A R
  entered v log a = record v { seen = log; also = []; inside = true; asked = a }

  abbrev pub left : View V A R → Entry A R → View V A R
  left v e = record v { seen = v.seen ++ e ∷ []; also = []; mine = v.mine ++ e ∷ []; ticket = ticket_after v.ticket v.more; more = one_less v.more; inside = false; asked = None }

  abbrev pub learned : View V A R → List (Entry A R) → View V A R
  learned v log = record v { seen = log; also = [] }

  abbrev pub parent : View V A R → View V A R
  parent v = record v { splits = v.splits + 1 }

  abbrev pub child : View V A R → View V A R
  child v = record { stage = Ready; opening = v.opening; number = v.splits + 1; seen = v.seen; also = []; mine = []; ticket = None; more = 0; inside = false; asked = None; splits = 0; joined = []; spent = false }

  abbrev pub merged : View V A R → View V A R → View V A R
  merged v w = record v { also = w.seen; joined = v.joined ++ (w.number, w.mine) ∷ [] }

  abbrev pub gone : View V A R
  gone = record { stage = Ready; opening = None; number = 0; seen = []; also = []; mine = []; ticket = None; more = 0; inside = false; asked = None; splits = 0; joined = []; spent = true }

  -- the most tickets without a place that a pass has drawn, which then draws no more
  abbrev pub ended : View V A R → ℕ
  ended v = cond v.spent (2 ^ 16) (late v.ticket v.more)

  -- how many turns a pass waits for, with the one that it has
  abbrev pub waits : View V A R → ℕ
  waits v = placed v.ticket v.more

  abbrev pub is_spent : View V A R → ℕ
  is_spent v = cond v.spent 1 0

  abbrev pub total : (View V A R → ℕ) → List (View V A R) → ℕ
  total f [] = 0
  total f (v ∷ vs) = f v + total f vs

  abbrev pub Opens : Step (Option V) → Me (Option V) (View V A R) → ℕ → Me (Option V) (View V A R) → Type 0
  Opens s m n m' = (m'.0 ≡ opened m.0) × (m'.1 ≡ (0, None) ∷ m.1)

  abbrev pub Fills : Step (Option V) → Me (Option V) (View V A R) → ℕ → Me (Option V) (View V A R) → Type 0
  Fills s m n m' = m' ≡ (filled m.0, [])

  abbrev pub Draws : Step (Option V) → Me (Option V) (View V A R) → ℕ → Me (Option V) (View V A R) → Type 0
  Draws s m n m' = m' ≡ (drawn m.0 n s.first, m.1)

module _ {V A R : Type 0} (legal : V → List (Entry A R) → Type 0) (may : V → List (Entry A R) → A → Type 0) where
  -- the history so far is legal, and begins with what the pass had seen
  pub record History (v : View V A R) (log : List (Entry A R)) : Type 0 where
    pub first : V
    pub opening : v.opening ≡ Some first
    pub is_legal : legal first log
    pub met : Met (may first) log
    pub seen : Begins v.seen log
    pub also : Begins v.also log
    pub mine : own v.number log ≡ v.mine
    pub joined : (i : ℕ) (x : ℕ × List (Entry A R)) → get_elem? v.joined i ≡ some x → own x.0 log ≡ x.1

  abbrev pub Looks : (V → List (Entry A R) → V → Type 0) → Option A → Step (Option V) → Me (Option V) (View V A R) → ℕ → Me (Option V) (View V A R) → Type 0
  Looks reaches told s m n m' =
      (m.0.ticket ≢ Some n → m' ≡ m)
      × (m.0.ticket ≡ Some n → (log : List (Entry A R)) × (y : V) × (m' ≡ (entered m.0 log told, (0, Some y) ∷ m.1)) × (length log ≡ n) × (h : History m.0 log) × reaches h.first log y)

  abbrev pub Leaves : Option R → Step (Option V) → Me (Option V) (View V A R) → ℕ → Me (Option V) (View V A R) → Type 0
  Leaves told s m n m' = (a : A) (r : R) → m.0.asked ≡ Some a → told ≡ Some r → m' ≡ (left m.0 (entry m.0.number a r), [])

  abbrev pub Learns : Step (Option V) → Me (Option V) (View V A R) → ℕ → Me (Option V) (View V A R) → Type 0
  Learns s m n m' = (log : List (Entry A R)) × (m' ≡ (learned m.0 log, m.1)) × History m.0 log

module _ {V A R : Type 0} (legal : V → List (Entry A R) → Type 0) (reaches : V → List (Entry A R) → V → Type 0) (may : V → List (Entry A R) → A → Type 0) (clear : List (Entry A R) → Type 0) (key : V) where
  -- what holds of a pass that is not joined
  pub record Live (log : List (Entry A R)) (homes : List (maybe.Option (Option V))) (next : ℕ) (id : ℕ) (v : View V A R) : Type 0 where
    pub stage : v.stage ≡ Ready
    pub number : v.number ≡ id
    pub opening : v.opening ≡ Some key
    pub seen : Begins v.seen log
    pub also : Begins v.also log
    pub mine : own id log ≡ v.mine
    pub ticket : (t : ℕ) → HasTicket v t → (length log ≤ t) × (t < next)
    pub inside : v.inside ≡ true → (v.ticket ≡ Some (length log)) × (length log < 2 ^ 50) × (v.seen ≡ log) × (homes ≡ none ∷ [])

  -- and of one that is
  pub record Gone (log : List (Entry A R)) (joined : List (ℕ × List (Entry A R))) (id : ℕ) (v : View V A R) : Type 0 where
    pub cleared : clear (own id log)
    pub ticket : v.ticket ≡ None
    pub inside : v.inside ≡ false
    pub listed : (i : ℕ) × (get_elem? joined i ≡ some (id, own id log))

  pub record Fits (log : List (Entry A R)) (homes : List (maybe.Option (Option V))) (next : ℕ) (joined : List (ℕ × List (Entry A R))) (id : ℕ) (v : View V A R) : Type 0 where
    pub live : v.spent ≡ false → Live log homes next id v
    pub gone : v.spent ≡ true → Gone log joined id v

  -- the value is in its slot, or a pass is inside
  abbrev pub Slot : List (Entry A R) → List (maybe.Option (Option V)) → List (View V A R) → Type 0
  Slot log homes views = ((y : V) × (homes ≡ some (Some y) ∷ []) × reaches key log y) ⊎ ((id : ℕ) × (v : View V A R) × (get_elem? views id ≡ some v) × (v.inside ≡ true))

  pub record Going (s : State (Option V) (View V A R)) : Type 0 where
    pub log : List (Entry A R)
    pub next : ℕ
    pub splits : ℕ
    pub joined : List (ℕ × List (Entry A R))
    pub words : s.words ≡ next ∷ length log ∷ []
    pub served : length log ≤ next
    pub is_legal : legal key log
    pub met : Met (may key) log
    pub fits : (id : ℕ) (v : View V A R) → get_elem? s.views id ≡ some v → Fits log s.homes next joined id v
    pub later : (id : ℕ) → length s.views ≤ id → own id log ≡ []
    pub apart : (i j : ℕ) (v w : View V A R) (t : ℕ) → get_elem? s.views i ≡ some v → get_elem? s.views j ≡ some w → HasTicket v t → HasTicket w t → i ≡ j
    pub slot : Slot log s.homes s.views
    pub waiting : HavePlaces next (total waits s.views + length log)
    pub few : next ≤ 2 ^ 50 + total ended s.views
    pub count : length s.views ≡ splits + 1
    pub room : splits ≤ 2 ^ 32
    pub root : (v : View V A R) → get_elem? s.views 0 ≡ some v → (v.spent ≡ false) × (v.splits ≡ splits) × (v.joined ≡ joined)
    pub others : (id : ℕ) (v : View V A R) → get_elem? s.views id ≡ some v → 0 < id → v.joined ≡ []
    pub all : total is_spent s.views ≡ length joined
    pub listed : (i : ℕ) (x : ℕ × List (Entry A R)) → get_elem? joined i ≡ some x → (own x.0 log ≡ x.1) × ((v : View V A R) → get_elem? s.views x.0 ≡ some v → v.spent ≡ true) × (x.0 < length s.views)

  -- while the turnstile is made
  abbrev pub Building : State (Option V) (View V A R) → Type 0
  Building s = (s.words ≡ 0 ∷ 0 ∷ []) × (((s.views ≡ newborn key ∷ []) × (s.homes ≡ some None ∷ [])) ⊎ ((s.views ≡ opened (newborn key) ∷ []) × (s.homes ≡ none ∷ [])))

  abbrev pub Kept : State (Option V) (View V A R) → Type 0
  Kept s = Building s ⊎ Going s

module _ {V A R : Type 0} (legal : V → List (Entry A R) → Type 0) (reaches : V → List (Entry A R) → V → Type 0) (may : V → List (Entry A R) → A → Type 0) (clear : List (Entry A R) → Type 0) where
  -- the value stands for the state after a legal history, which begins with all that the first pass had seen and has the calls of every joined pass and of no other
  pub record Ended (v : View V A R) (first : V) (y : V) : Type 0 where
    pub log : List (Entry A R)
    pub is_legal : legal first log
    pub met : Met (may first) log
    pub stood : reaches first log y
    pub seen : Begins v.seen log
    pub mine : own 0 log ≡ v.mine
    pub joined : (i : ℕ) (x : ℕ × List (Entry A R)) → get_elem? v.joined i ≡ some x → own x.0 log ≡ x.1
    pub each : (p : ℕ) → p ≤ v.splits → clear (own p log)
    pub all : (p : ℕ) → 0 < p → p ≤ v.splits → (i : ℕ) × (get_elem? v.joined i ≡ some (p, own p log))
    pub no_other : (p : ℕ) → v.splits < p → own p log ≡ []
