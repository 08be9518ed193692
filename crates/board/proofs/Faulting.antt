-- A component fails once in a history, so that each fault is its first one.
use Rattle.std.proofs.Common.{◌≡◌, ℕ, zero, suc, nat_eq, true, false, List, [], ◌∷◌, Option, Some, None, IfSome, MatchOption, slice_get, refl, sym, ◌∙◌, ap, subst, eqb-true}
use Rattle.omx_types.specs.declared.fault.PartFault.{PartFault}
use Rattle.il_machine.specs.World.{World}
use Rattle.il_machine.specs.Acts as acts
use Rattle.il_machine.specs.Run.{Meets, Run, Step}
use Rattle.il_machine.specs.Sound.{Sound}
use Rattle.machine_laws.proofs.Every.{from_places}
use Rattle.machine_laws.proofs.Finding.{either}
use Rattle.machine_laws.proofs.Steps.{sound_step}
use Rattle.audio_parts.specs.declared.part_file.PartFile.{PartFile}
use Rattle.il_flow.specs.Works.{seen_done}
use Rattle.il_graph.specs.Shown as graphs
use Rattle.turnstile.specs.declared.entry.Entry.{Entry}
use Rattle.graph_acts.specs.declared.act.Act.{Act}
use Rattle.graph_acts.specs.declared.act.Act.TheVariants as asks
use Rattle.graph_acts.specs.declared.act.Reply.{Reply}
use Rattle.graph_acts.specs.declared.act.Reply.TheVariants as replies
use Rattle.graph_acts.specs.Objects.{files_in}
use Rattle.graph_acts.specs.Plain.{Sight, Unsaid, plain_act, plain_reply}
use Rattle.graph_acts.specs.Working.{IsFaulted}
use Rattle.board.specs.Asking.{ArePlain}
use Rattle.board.specs.Files.{IsFileOf, HaveTheirFiles, ShowTheirFaults, fault_by, fault_in, first_fault, held_as}
use Rattle.board.proofs.Failing.{HasFailed, failed_still, fails_so, none_again}

module _ {S K C : Type 0} (see : Sight S K C) (number : ℕ) where
  -- ---- one act

  act_fails : (a : Act S K C) (r : Reply S K C) (u : Unsaid) (w v : World) → Sound w → Meets w (plain_act see u a) → Step w (plain_act see u a) (plain_reply u r) v → (fault : PartFault) → fault_in number a ≡ Some fault → HasFailed number v
  act_fails (asks.Finish done) replies.Finish u w v sound M s fault e = either (nat_eq number done.component.generation)
      (λ t.
      let f : done.fault ≡ Some fault = rw t at e in
      subst (λ (k : ℕ). HasFailed k v) (sym (eqb-true number done.component.generation t)) (fails_so w (seen_done u.took done) fault v sound M s f))
      (λ t. let f : None ≡ Some fault = rw t at e in absurd cc)
  act_fails (asks.Finish done) r u w v sound M s fault e = absurd s
  act_fails a r u w v sound M s fault e = absurd cc

  act_faultless : (a : Act S K C) (r : Reply S K C) (u : Unsaid) (w v : World) → Sound w → Meets w (plain_act see u a) → Step w (plain_act see u a) (plain_reply u r) v → HasFailed number w → fault_in number a ≡ None
  act_faultless (asks.Finish done) replies.Finish u w v sound M s F = either (nat_eq number done.component.generation)
      (λ t. absurd (none_again w (seen_done u.took done) v sound M s (subst (λ (k : ℕ). HasFailed k w) (eqb-true number done.component.generation t) F)))
      (λ t. rw t refl)
  act_faultless (asks.Finish done) r u w v sound M s F = absurd s
  act_faultless a r u w v sound M s F = refl

  -- ---- a history

  -- no fault comes of one that has failed
  none_after : (log : List (Entry (Act S K C) (Reply S K C))) (xs : List (acts.Act × acts.Reply)) (w v : World) → Sound w → ArePlain see log xs → Run w xs v → HasFailed number w
      → (i : ℕ) (e : Entry (Act S K C) (Reply S K C)) → slice_get log i ≡ Some e → fault_in number e.act ≡ None
  none_after [] xs w v sound A R F i e at = absurd cc
  none_after (x ∷ log) [] w v sound A R F i e at = absurd A
  none_after (x ∷ log) (y ∷ xs) w v sound A (mid, M, s, R) F zero e at =
      let is : x ≡ e = cc in
      let u = A.0.0 in
      let M' = subst (λ (z : acts.Act × acts.Reply). Meets w z.0) A.0.1 M in
      let s' = subst (λ (z : acts.Act × acts.Reply). Step w z.0 z.1 mid) A.0.1 s in
      ap (λ (z : Entry (Act S K C) (Reply S K C)). fault_in number z.act) (sym is) ∙ act_faultless x.act x.reply u w mid sound M' s' F
  none_after (x ∷ log) (y ∷ xs) w v sound A (mid, M, s, R) F (suc i) e at =
      none_after log xs mid v (sound_step w mid y.0 y.1 M s sound) A.1 R (failed_still number w y.0 y.1 mid sound M s F) i e at

  -- the faults of a component have one place
  pub fails_once : (log : List (Entry (Act S K C) (Reply S K C))) (xs : List (acts.Act × acts.Reply)) (w v : World) → Sound w → ArePlain see log xs → Run w xs v
      → (i j : ℕ) (d e : Entry (Act S K C) (Reply S K C)) (f g : PartFault) → slice_get log i ≡ Some d → slice_get log j ≡ Some e → fault_in number d.act ≡ Some f → fault_in number e.act ≡ Some g → i ≡ j
  fails_once [] xs w v sound A R i j d e f g at bt p q = absurd cc
  fails_once (x ∷ log) [] w v sound A R i j d e f g at bt p q = absurd A
  fails_once (x ∷ log) (y ∷ xs) w v sound A (mid, M, s, R) zero zero d e f g at bt p q = refl
  fails_once (x ∷ log) (y ∷ xs) w v sound A (mid, M, s, R) (suc i) (suc j) d e f g at bt p q = ap suc (fails_once log xs mid v (sound_step w mid y.0 y.1 M s sound) A.1 R i j d e f g at bt p q)
  fails_once (x ∷ log) (y ∷ xs) w v sound A (mid, M, s, R) zero (suc j) d e f g at bt p q =
      let is : x ≡ d = cc in
      let F = act_fails x.act x.reply A.0.0 w mid sound (subst (λ (z : acts.Act × acts.Reply). Meets w z.0) A.0.1 M) (subst (λ (z : acts.Act × acts.Reply). Step w z.0 z.1 mid) A.0.1 s) f
      (ap (λ (z : Entry (Act S K C) (Reply S K C)). fault_in number z.act) is ∙ p) in
      let none = none_after log xs mid v (sound_step w mid y.0 y.1 M s sound) A.1 R F j e bt in
      let no : None ≡ Some g = sym none ∙ q in
      absurd cc
  fails_once (x ∷ log) (y ∷ xs) w v sound A (mid, M, s, R) (suc i) zero d e f g at bt p q =
      let is : x ≡ e = cc in
      let F = act_fails x.act x.reply A.0.0 w mid sound (subst (λ (z : acts.Act × acts.Reply). Meets w z.0) A.0.1 M) (subst (λ (z : acts.Act × acts.Reply). Step w z.0 z.1 mid) A.0.1 s) g
      (ap (λ (z : Entry (Act S K C) (Reply S K C)). fault_in number z.act) is ∙ q) in
      let none = none_after log xs mid v (sound_step w mid y.0 y.1 M s sound) A.1 R F i d at in
      let no : None ≡ Some f = sym none ∙ p in
      absurd cc

  first_stays : (f : PartFault) (o : Option PartFault) → first_fault (Some f) o ≡ Some f
  first_stays f None = refl
  first_stays f (Some g) = refl

  fault_stays : (f : PartFault) (log : List (Entry (Act S K C) (Reply S K C))) → fault_by number (Some f) log ≡ Some f
  fault_stays f [] = refl
  fault_stays f (x ∷ log) = ap (λ (o : Option PartFault). fault_by number o log) (first_stays f (fault_in number x.act)) ∙ fault_stays f log

  -- what is known before an act and after it
  abbrev MayHave : Option PartFault → World → Type 0
  MayHave fault w = MatchOption fault (Unit {0}) (λ _. HasFailed number w)

  next_fault : (fault o : Option PartFault) (w mid : World) → MayHave fault w → (HasFailed number w → HasFailed number mid × (o ≡ None)) → ((f : PartFault) → o ≡ Some f → HasFailed number mid)
      → MayHave (first_fault fault o) mid × ((f : PartFault) → o ≡ Some f → first_fault fault o ≡ Some f)
  next_fault None None w mid H k n = (tt, λ f e. e)
  next_fault None (Some g) w mid H k n = (n g refl, λ f e. e)
  next_fault (Some f) None w mid H k n = ((k H).0, λ g e. absurd cc)
  next_fault (Some f) (Some g) w mid H k n = let no : Some g ≡ None = (k H).1 in absurd cc

  -- each fault is the first
  is_first : (log : List (Entry (Act S K C) (Reply S K C))) (xs : List (acts.Act × acts.Reply)) (w v : World) (fault : Option PartFault) → Sound w → ArePlain see log xs → Run w xs v → MayHave fault w
      → (i : ℕ) (e : Entry (Act S K C) (Reply S K C)) → slice_get log i ≡ Some e → (f : PartFault) → fault_in number e.act ≡ Some f → fault_by number fault log ≡ Some f
  is_first [] xs w v fault sound A R H i e at f p = absurd cc
  is_first (x ∷ log) [] w v fault sound A R H i e at f p = absurd A
  is_first (x ∷ log) (y ∷ xs) w v fault sound A (mid, M, s, R) H i e at f p =
      let u = A.0.0 in
      let M' = subst (λ (z : acts.Act × acts.Reply). Meets w z.0) A.0.1 M in
      let s' = subst (λ (z : acts.Act × acts.Reply). Step w z.0 z.1 mid) A.0.1 s in
      let N = next_fault fault (fault_in number x.act) w mid H (λ F. (failed_still number w y.0 y.1 mid sound M s F, act_faultless x.act x.reply u w mid sound M' s' F)) (act_fails x.act x.reply u w mid sound M' s') in
      by_place N (λ j bt. is_first log xs mid v (first_fault fault (fault_in number x.act)) (sound_step w mid y.0 y.1 M s sound) A.1 R N.0 j e bt f p) i at
    where
      by_place : MayHave (first_fault fault (fault_in number x.act)) mid × ((f : PartFault) → fault_in number x.act ≡ Some f → first_fault fault (fault_in number x.act) ≡ Some f) → ((j : ℕ) → slice_get log j ≡ Some e → fault_by number (first_fault fault (fault_in number x.act)) log ≡ Some f)
          → (i : ℕ) → slice_get (x ∷ log) i ≡ Some e
          → fault_by number (first_fault fault (fault_in number x.act)) log ≡ Some f
      by_place N later zero at =
          let is : x ≡ e = cc in
          let q = N.1 f (ap (λ (z : Entry (Act S K C) (Reply S K C)). fault_in number z.act) is ∙ p) in
          ap (λ (o : Option PartFault). fault_by number o log) q ∙ fault_stays f log
      by_place N later (suc i) at = later i at

  -- and so it shows
  shown_by_first : (came : Option (PartFile S K)) (o : Option PartFault) (file : PartFile S K) (f : PartFault) → IsFileOf see came o file → o ≡ Some f → IsFaulted see.reads see.writes f (held_as false came) (held_as true (Some file))
  shown_by_first came o file f J e = (subst (λ (z : Option PartFault). IsFileOf see came z file) e J).1

  if_some : {X : Type 0} (o : Option X) (P : X → Type 0) → ((x : X) → o ≡ Some x → P x) → IfSome o P
  if_some None P h = tt
  if_some (Some x) P h = h x refl

module _ {S K C : Type 0} (see : Sight S K C) where
  pub faults_shown : (first : graphs.Shown S K C) (log : List (Entry (Act S K C) (Reply S K C))) (xs : List (acts.Act × acts.Reply)) (w v : World) → Sound w → ArePlain see log xs → Run w xs v → HaveTheirFiles see first log → ShowTheirFaults see first log
  faults_shown first log xs w v sound A R H number none file is =
      from_places (λ (e : Entry (Act S K C) (Reply S K C)). IfSome (fault_in number e.act) (λ fault. IsFaulted see.reads see.writes fault (held_as false (files_in first number)) (held_as true (Some file)))) log
      (λ i e at. if_some see number (fault_in number e.act) (λ fault. IsFaulted see.reads see.writes fault (held_as false (files_in first number)) (held_as true (Some file)))
      (λ f p. shown_by_first see number (files_in first number) (fault_by number None log) file f (H number none file is) (is_first see number log xs w v None sound A R tt i e at f p)))
