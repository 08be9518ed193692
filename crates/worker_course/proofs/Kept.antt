-- The pages of a play have the lines of its passes, and its gates their counts.
use Rattle.std.proofs.Common.{◌≡◌, ℕ, suc, ◌+◌, false, All, List, [], ◌∷◌, length, slice_get, Option, Some, refl, subst, arith}
use Rattle.std.proofs.lemmas.List.Elements.{All-head, All-tail}
use Rattle.turnstile.specs.declared.entry.Entry.{Entry}
use Rattle.turnstile.specs.Entries.{own}
use Rattle.board.specs.declared.asked.Asked.{Asked}
use Rattle.board.specs.declared.asked.Told.{Told}
use Rattle.pass_book.specs.Saying.{line_of}
use Rattle.pass_book.specs.Seats.{names_of}
use Rattle.pass_lines.specs.Passes.{pass_of}
use Rattle.play_log.specs.Choosing.{lists_by}
use Rattle.play_log.specs.Places.{AreKeptAt, PassLogValue}
use Rattle.play_workers.specs.Wholes.{HasCounted, IsPageOf}
use Rattle.work_signs.specs.declared.seat.Seat.{Seat}
use Rattle.worker_play_laws.specs.Lines.{GatesCount}

module _ {S K C : Type 0} (seats : List Seat) (log : List (Entry (Asked S K C) (Told S K C))) where
  -- those from a pass on
  kept_from : (from : ℕ) (pages : List PassLogValue) → ((i : ℕ) (page : PassLogValue) → slice_get pages i ≡ Some page → IsPageOf seats (from + i) log page)
      → All (λ (page : PassLogValue). page.broken ≡ false) pages → AreKeptAt (lists_by pass_of (line_of (names_of seats)) from (length pages) log) pages
  kept_from from [] h whole = tt
  kept_from from (page ∷ pages) h whole =
      let P : PassLogValue → Type 0 = λ y. y.broken ≡ false in
      let z : from + 0 ≡ from = omega arith in (
        subst (λ (p : ℕ). IsPageOf seats p log page) z (h 0 page refl) (All-head P page pages whole),
        kept_from (from + 1) pages (λ i y e.
            let n : from + suc i ≡ from + 1 + i = omega arith in
            subst (λ (p : ℕ). IsPageOf seats p log y) n (h (suc i) y e)) (All-tail P page pages whole),
      )

  pub are_kept : (passes : ℕ) (pages : List PassLogValue) → length pages ≡ passes → ((p : ℕ) (page : PassLogValue) → slice_get pages p ≡ Some page → IsPageOf seats p log page)
      → All (λ (page : PassLogValue). page.broken ≡ false) pages → AreKeptAt (lists_by pass_of (line_of (names_of seats)) 0 passes log) pages
  are_kept passes pages n h whole =
      subst (λ (m : ℕ). AreKeptAt (lists_by pass_of (line_of (names_of seats)) 0 m log) pages) n
      (kept_from 0 pages (λ i page e. let z : i ≡ 0 + i = omega arith in subst (λ (p : ℕ). IsPageOf seats p log page) z (h i page e)) whole)

-- ---- counts

module _ {S K C : Type 0} where
  pub gates_count : {G : Type 0} (counts : G → Option (ℕ → ℕ)) (log : List (Entry (Asked S K C) (Told S K C))) (pass : ℕ) (gates : List G)
      → ((i : ℕ) (gate : G) → slice_get gates i ≡ Some gate → HasCounted counts (own (pass + i) log) gate) → GatesCount counts pass gates log
  gates_count counts log pass [] h = tt
  gates_count {G = G} counts log pass (gate ∷ gates) h = (
    (let z : pass + 0 ≡ pass = omega arith in subst (λ (p : ℕ). HasCounted counts (own p log) gate) z (h 0 gate refl)),
    gates_count counts log (pass + 1) gates (λ i y e.
        let n : pass + suc i ≡ pass + 1 + i = omega arith in
        subst (λ (p : ℕ). HasCounted counts (own p log) y) n (h (suc i) y e)),
  )
