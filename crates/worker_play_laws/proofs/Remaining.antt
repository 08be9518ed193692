-- Where no work is out at first and at last, the file object of each component is there again, and shows what failed of it.
use Rattle.std.proofs.Common.{◌≡◌, ℕ, Bool, true, false, List, [], ◌∷◌, All, Option, Some, None, IfSome, is_some, if◌then◌else◌, suc, slice_get, inl, inr, refl, sym, ◌∙◌, ap, subst, eq-eqb}
use Rattle.std.specs.Prelude.{option_and_then}
use Rattle.omx_types.specs.declared.fault.PartFault.{PartFault}
use Rattle.il_machine.specs.Acts as acts
use Rattle.il_machine.specs.Run.{Run}
use Rattle.il_machine.specs.Sound.{Sound}
use Rattle.il_machine.specs.World.{Component, Work, World, place_numbered}
use Rattle.history_laws.specs.Works.{has_work_out}
use Rattle.il_machine.specs.declared.answer.Progress.{Progress}
use Rattle.machine_laws.proofs.Every.{at_place}
use Rattle.audio_parts.specs.declared.part_file.PartFile.{PartFile}
use Rattle.il_graph.specs.Shown as graphs
use Rattle.turnstile.specs.declared.entry.Entry.{Entry}
use Rattle.graph_acts.specs.declared.act.Act.{Act}
use Rattle.graph_acts.specs.declared.act.Act.TheVariants as asks
use Rattle.graph_acts.specs.declared.act.Reply.{Reply}
use Rattle.graph_acts.specs.Objects.{AreGivenFrom, HasObjects, clients_in, files_by, files_in, none_seen}
use Rattle.graph_acts.specs.Plain.{Sight, Unsaid, plain_act}
use Rattle.graph_acts.specs.Working.{IsFaulted, IsFurther}
use Rattle.board.specs.declared.asked.Asked.{Asked}
use Rattle.board.specs.declared.asked.Told.{Told}
use Rattle.board.specs.declared.watched.Watched.{Watched}
use Rattle.board.specs.Asking.{ArePlain, bare_log}
use Rattle.board.specs.Histories.{Legal, graph_of}
use Rattle.board.specs.Files.{HaveTheirFiles, IsFileOf, brings_file, fault_by, fault_in, held_as, is_steady}
use Rattle.board.proofs.Chaining.{files_from_first}
use Rattle.board.proofs.Faulting.{faults_shown}
use Rattle.board.proofs.There.{still_filed}
use Rattle.work_signs.specs.declared.seat.Seat.{Seat}
use Rattle.pass_book.specs.Seats.{IsOfPlay}
use Rattle.play_course.specs.Failing.{HasFailure, IsFailureOf}
use Rattle.play_run.specs.Playing.{HaveNoWork}
use Rattle.worker_play_laws.specs.Files.{HaveStayed, ShowsSince}
use Rattle.worker_play_laws.proofs.StepSeats.{all_steady, bare_acts, none_brought}
use Rattle.worker_play_laws.proofs.Unfiled.{never_fails}

-- there is something, or nothing
none_or : {X : Type 0} (o : Option X) → (o ≡ None → ⊥) → (x : X) × (o ≡ Some x)
none_or None n = absurd (n refl)
none_or (Some x) n = (x, refl)

is_there : {X : Type 0} (o : Option X) (x : X) → o ≡ Some x → is_some o ≡ true
is_there o x e = ap is_some e

some_of : {X : Type 0} (o : Option X) → is_some o ≡ true → (x : X) × (o ≡ Some x)
some_of None e = absurd cc
some_of (Some x) e = (x, refl)

-- ---- no work is out

idle_at : (cs : List Component) (i : ℕ) (o : Option Component) → slice_get cs i ≡ o → All (λ (c : Component). c.work ≡ None) cs → is_some (option_and_then (λ (c : Component). c.work) o) ≡ false
idle_at cs i None e A = refl
idle_at cs i (Some c) e A = ap (λ (o : Option Work). is_some o) (at_place (λ (d : Component). d.work ≡ None) cs i c A e)

idle : (cs : List Component) (o : Option ℕ) → All (λ (c : Component). c.work ≡ None) cs → is_some (option_and_then (λ (c : Component). c.work) (option_and_then (slice_get cs) o)) ≡ false
idle cs None A = refl
idle cs (Some i) A = idle_at cs i (slice_get cs i) refl A

none_out : (n : ℕ) (w : World) → HaveNoWork w → has_work_out n w ≡ false
none_out n w A = idle w.components (place_numbered n w.components) A

module _ {S K C : Type 0} (see : Sight S K C) where
  -- ---- one component's file, at first and at last

  further_so : (came left : Option (PartFile S K)) (fault : Option PartFault) → ((file : PartFile S K) → left ≡ Some file → IsFileOf see came fault file) → (is_some came ≡ true → is_some left ≡ true)
      → (failed : Bool) × IsFurther see.reads see.writes (held_as false came) (held_as failed left)
  further_so None None fault H T = (false, ((λ e. e), tt))
  further_so None (Some y) None H T = absurd (H y refl).1
  further_so None (Some y) (Some f) H T = absurd (H y refl).0.1
  further_so (Some x) None fault H T = let z : false ≡ true = T refl in absurd cc
  further_so (Some x) (Some y) None H T = (false, H y refl)
  further_so (Some x) (Some y) (Some f) H T = (true, (H y refl).0)

  -- ---- the failed step of a component

  fault_of : (number : ℕ) (u : Unsaid) (a : Act S K C) (fault : PartFault) → IsFailureOf (plain_act see u a) number fault → fault_in number a ≡ Some fault
  fault_of number u (asks.Finish done) fault (here, failed) =
      ap (λ (b : Bool). if b then done.fault else None) (eq-eqb number done.component.generation (sym here)) ∙ failed
  fault_of number u _ fault none = absurd none

  fault_at : (number : ℕ) (log : List (Entry (Act S K C) (Reply S K C))) (steps : List (acts.Act × acts.Reply)) → ArePlain see log steps → (fault : PartFault) → HasFailure steps number fault
      → (i : ℕ) × (e : Entry (Act S K C) (Reply S K C)) × (slice_get log i ≡ Some e) × (fault_in number e.act ≡ Some fault)
  fault_at number log [] P fault h = absurd h
  fault_at number [] (x ∷ xs) P fault h = absurd P
  fault_at number (e ∷ log) (x ∷ xs) P fault h = elim h [
    | inl here ↦ (0, e, refl, fault_of number P.0.0 e.act fault (subst (λ (y : acts.Act × acts.Reply). IsFailureOf y.0 number fault) P.0.1 here))
    | inr later ↦ let f = fault_at number log xs P.1 fault later in (suc f.0, f.1, f.2, f.3)
  ]

  -- ---- a history

  module _ (first : graphs.Shown S K C) (log : List (Entry (Act S K C) (Reply S K C))) (steps : List (acts.Act × acts.Reply)) (w v : World) (given : AreGivenFrom see first log) (sound : Sound w)
      (plain : ArePlain see log steps) (runs : Run w steps v) (none : HaveNoWork w) (back : HaveNoWork v) (steady : All (λ e. is_steady e.act ≡ true) log)
      (brought : (number : ℕ) → All (λ e. brings_file number e.act ≡ false) log) where
    their_files : HaveTheirFiles see first log
    their_files number A file is = files_from_first see number log (clients_in first) (files_in first) given A file is

    still_there : (number : ℕ) → is_some (files_in first number) ≡ true → is_some (files_by (files_in first) log number) ≡ true
    still_there number t = still_filed see number log steps w v (clients_in first) (files_in first) sound plain runs given steady (none_out number w none) (none_out number v back) t

    pub file_further : (number : ℕ) → (failed : Bool) × IsFurther see.reads see.writes (held_as false (files_in first number)) (held_as failed (files_by (files_in first) log number))
    file_further number = further_so (files_in first number) (files_by (files_in first) log number) (fault_by number None log) (their_files number (brought number)) (still_there number)

    -- where a step failed there was a file
    filed : (number : ℕ) (fault : PartFault) (i : ℕ) (e : Entry (Act S K C) (Reply S K C)) → slice_get log i ≡ Some e → fault_in number e.act ≡ Some fault → files_in first number ≡ None → ⊥
    filed number fault i e at failed absent =
        let A = never_fails see number log (clients_in first) (files_in first) none_seen given (brought number) absent refl in
        let z : None ≡ Some fault = sym (at_place (λ (d : Entry (Act S K C) (Reply S K C)). fault_in number d.act ≡ None) log i e A at) ∙ failed in
        absurd cc

    pub file_faulted : (number : ℕ) (fault : PartFault) → HasFailure steps number fault
        → (failed : Bool) × IsFaulted see.reads see.writes fault (held_as false (files_in first number)) (held_as failed (files_by (files_in first) log number))
    file_faulted number fault h =
        let f = fault_at number log steps plain fault h in
        let came = none_or (files_in first number) (filed number fault f.0 f.1 f.2 f.3) in
        let left = some_of (files_by (files_in first) log number) (still_there number (is_there (files_in first number) came.0 came.1)) in
        let Q : Option (PartFile S K) → PartFault → Type 0 = λ o why. IsFaulted see.reads see.writes why (held_as false (files_in first number)) (held_as true o) in
        let shown = faults_shown see first log steps w v sound plain runs their_files number (brought number) left.0 left.1 in
        let here = at_place (λ (d : Entry (Act S K C) (Reply S K C)). IfSome (fault_in number d.act) (λ why. IsFaulted see.reads see.writes why (held_as false (files_in first number)) (held_as true (Some left.0)))) log f.0 f.1 shown f.2 in
        let so : Q (Some left.0) fault = subst (λ (o : Option PartFault). IfSome o (λ why. IsFaulted see.reads see.writes why (held_as false (files_in first number)) (held_as true (Some left.0)))) f.3 here in
        (true, subst (λ (o : Option (PartFile S K)). Q o fault) (sym left.1) so)

-- ---- a board's history of a play

module _ {S K : Type 0} (see : Sight S K Progress) (seats : List Seat) (watched : Watched S K Progress) (first now : graphs.Shown S K Progress) (log : List (Entry (Asked S K Progress) (Told S K Progress)))
    (steps : List (acts.Act × acts.Reply)) (w v : World) (legal : Legal see watched log) (opening : graph_of watched ≡ first) (objects : HasObjects (graph_of watched) (bare_log log) now)
    (acted : All (λ e. IsOfPlay seats e.act.act) log) (plain : ArePlain see (bare_log log) steps) (sound : Sound w) (runs : Run w steps v) (none : HaveNoWork w) (back : HaveNoWork v) where
  steady : All (λ e. is_steady e.act ≡ true) (bare_log log)
  steady = all_steady seats (bare_log log) (bare_acts seats log acted)

  brought : (number : ℕ) → All (λ e. brings_file number e.act ≡ false) (bare_log log)
  brought number = none_brought seats number (bare_log log) (bare_acts seats log acted)

  -- what is so of the file at first and of that which the history leaves is so in the graphs
  in_graphs : (Q : Option (PartFile S K) → Option (PartFile S K) → Type 0) (number : ℕ) → Q (files_in (graph_of watched) number) (files_by (files_in (graph_of watched)) (bare_log log) number)
      → Q (files_in first number) (files_in now number)
  in_graphs Q number so =
      subst (λ (g : graphs.Shown S K Progress). Q (files_in g number) (files_in now number)) opening
      (subst (Q (files_in (graph_of watched) number)) (sym (objects.files number)) so)

  pub files_stayed : HaveStayed see.reads see.writes first now
  files_stayed number =
      let s = file_further see (graph_of watched) (bare_log log) steps w v legal.objects sound plain runs none back steady brought number in
      (s.0, in_graphs (λ o p. IsFurther see.reads see.writes (held_as false o) (held_as s.0 p)) number s.1)

  pub files_shown : (place : ℕ) (fault : PartFault) → HasFailure steps place fault → ShowsSince see.reads see.writes first now place fault
  files_shown place fault h =
      let s = file_faulted see (graph_of watched) (bare_log log) steps w v legal.objects sound plain runs none back steady brought place fault h in
      (s.0, in_graphs (λ o p. IsFaulted see.reads see.writes fault (held_as false o) (held_as s.0 p)) place s.1)
