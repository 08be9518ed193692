-- Those who play bring no file, and make and free no component; and a component whose step they bring back has a seat.
use Rattle.std.proofs.Common.{◌≡◌, inl, inr, ℕ, ◌<◌, true, false, List, [], ◌∷◌, All, length, refl, sym, subst}
use Rattle.std.proofs.lemmas.List.Elements.{All-cons, All-head, All-map, All-nil, All-tail, All-weaker}
use Rattle.omx_types.specs.declared.fault.PartFault.{PartFault}
use Rattle.il_machine.specs.Acts as acts
use Rattle.turnstile.specs.declared.entry.Entry.{Entry}
use Rattle.graph_acts.specs.declared.act.Act.{Act}
use Rattle.graph_acts.specs.declared.act.Act.TheVariants as asks
use Rattle.graph_acts.specs.declared.act.Reply.{Reply}
use Rattle.graph_acts.specs.Plain.{Sight, Unsaid, plain_act}
use Rattle.board.specs.declared.asked.Asked.{Asked}
use Rattle.board.specs.declared.asked.Told.{Told}
use Rattle.board.specs.Asking.{ArePlain, bare, bare_log}
use Rattle.board.specs.Files as board
use Rattle.work_signs.specs.declared.seat.Seat.{Seat}
use Rattle.pass_book.specs.Seats.{IsOfPlay}
use Rattle.play_course.specs.Failing.{HasFailure, IsFailureOf}
use Rattle.worker_play_laws.specs.Files.{is_steady}

module _ {S K C : Type 0} (seats : List Seat) where
  abbrev Played : Entry (Act S K C) (Reply S K C) → Type 0
  Played e = IsOfPlay seats e.act

  -- ---- one act

  steady_act : (a : Act S K C) → IsOfPlay seats a → board.is_steady a ≡ true
  steady_act (asks.GetHandle name client) p = absurd p
  steady_act (asks.FreeHandle h) p = absurd p
  steady_act (asks.Attach h file) p = absurd p
  steady_act _ p = refl

  no_file : (number : ℕ) (a : Act S K C) → IsOfPlay seats a → board.brings_file number a ≡ false
  no_file number (asks.Attach h file) p = absurd p
  no_file number _ p = refl

  steady_plain : (see : Sight S K C) (u : Unsaid) (a : Act S K C) → IsOfPlay seats a → is_steady (plain_act see u a) ≡ true
  steady_plain see u (asks.GetHandle name client) p = absurd p
  steady_plain see u (asks.FreeHandle h) p = absurd p
  steady_plain see u (asks.Attach h file) p = absurd p
  steady_plain see u _ p = refl

  seated_act : (see : Sight S K C) (u : Unsaid) (a : Act S K C) (place : ℕ) (fault : PartFault) → IsOfPlay seats a → IsFailureOf (plain_act see u a) place fault → place < length seats
  seated_act see u (asks.Finish done) place fault p (here, failed) = subst (λ (n : ℕ). n < length seats) here p
  seated_act see u _ place fault p none = absurd none

  -- ---- a history

  pub bare_acts : (log : List (Entry (Asked S K C) (Told S K C))) → All (λ e. IsOfPlay seats e.act.act) log → All (λ e. IsOfPlay seats e.act) (bare_log log)
  bare_acts log A = All-map Played bare log A

  pub all_steady : (log : List (Entry (Act S K C) (Reply S K C))) → All (λ e. IsOfPlay seats e.act) log → All (λ e. board.is_steady e.act ≡ true) log
  all_steady log A = All-weaker Played (λ e. board.is_steady e.act ≡ true) (λ e p. steady_act e.act p) log A

  pub none_brought : (number : ℕ) (log : List (Entry (Act S K C) (Reply S K C))) → All (λ e. IsOfPlay seats e.act) log → All (λ e. board.brings_file number e.act ≡ false) log
  none_brought number log A = All-weaker Played (λ e. board.brings_file number e.act ≡ false) (λ e p. no_file number e.act p) log A

  pub steady_steps : (see : Sight S K C) (log : List (Entry (Act S K C) (Reply S K C))) (steps : List (acts.Act × acts.Reply)) → All (λ e. IsOfPlay seats e.act) log → ArePlain see log steps
      → All (λ step. is_steady step.0 ≡ true) steps
  steady_steps see [] [] A P = All-nil (λ (x : acts.Act × acts.Reply). is_steady x.0 ≡ true)
  steady_steps see [] (x ∷ xs) A P = absurd P
  steady_steps see (e ∷ log) [] A P = absurd P
  steady_steps see (e ∷ log) (x ∷ xs) A P =
      let Q : acts.Act × acts.Reply → Type 0 = λ y. is_steady y.0 ≡ true in
      All-cons Q x xs (subst Q (sym P.0.1) (steady_plain see P.0.0 e.act (All-head Played e log A))) (steady_steps see log xs (All-tail Played e log A) P.1)

  pub seated_failure : (see : Sight S K C) (log : List (Entry (Act S K C) (Reply S K C))) (steps : List (acts.Act × acts.Reply)) → All (λ e. IsOfPlay seats e.act) log → ArePlain see log steps
      → (place : ℕ) (fault : PartFault) → HasFailure steps place fault → place < length seats
  seated_failure see log [] A P place fault h = absurd h
  seated_failure see [] (x ∷ xs) A P place fault h = absurd P
  seated_failure see (e ∷ log) (x ∷ xs) A P place fault h = elim h [
    | inl here ↦ seated_act see P.0.0 e.act place fault (All-head Played e log A) (subst (λ (y : acts.Act × acts.Reply). IsFailureOf y.0 place fault) P.0.1 here)
    | inr later ↦ seated_failure see log xs (All-tail Played e log A) P.1 place fault later
  ]
