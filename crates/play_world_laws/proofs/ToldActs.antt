-- Which of the notes of a component is told.
use Rattle.std.proofs.Common.{◌≡◌, ◌≢◌, ◌⊎◌, inl, inr, ℕ, zero, suc, ◌<◌, Bool, true, false, not, ◌&&◌, nat_eq, if◌then◌else◌, List, [], ◌∷◌, ◌++◌, slice_get, Some, refl, sym, ◌∙◌, ap, subst, eq-eqb, arith}
use Rattle.std.proofs.lemmas.Bool.{cases_eq}
use Rattle.omx_types.specs.declared.command.Event.{Event}
use Rattle.omx_types.specs.declared.command.Note.{Note}
use Rattle.omx_types.specs.declared.command.Note.TheVariants as notes
use Rattle.omx_types.specs.declared.handle.Handle.{Handle}
use Rattle.il_machine.specs.Finishing.{end_note}
use Rattle.il_machine.specs.Lists.{is_empty}
use Rattle.il_machine.specs.Notes.{EndNote}
use Rattle.il_machine.specs.Queued.{notes_given}
use Rattle.il_machine.specs.Room.{is_event}
use Rattle.il_machine.specs.World.{Component, World, number_of}
use Rattle.machine_laws.proofs.Finding.{either}
use Rattle.play_model.specs.Acts.{Act, CanAct, acted}
use Rattle.play_model.specs.Acts.Act.{Begin, Send, Run, Happen, Tell, TellEnd, Supply, Release, HandOver, HandBack, HandUnused, Announce, TellSettings, Conduct, RunPort, HappenPort, TellPort, Step}
use Rattle.play_model.specs.Changes.{HasCompletion, port_at}
use Rattle.play_model.specs.Play.{HasNoPortNote, Layout, Play, component_at}
use Rattle.play_world_laws.specs.Cast.{components_of, links_of, script_place}
use Rattle.play_world_laws.specs.Telling.{out_of, state_note, unheard}
use Rattle.play_world_laws.specs.Worlds.{Names, ends_untold}
use Rattle.play_world_laws.proofs.Notes.{no_state_note}
use Rattle.play_world_laws.specs.Changing.{at_ends, at_links, notes_of_port}
use Rattle.play_world_laws.specs.PlayWorlds.{IsPlayWorld, PlayCast, announced_note, notes_of_end, port_notes, settings_notes, settings_of_end}
use Rattle.play_world_laws.specs.Leading.{PlayLeadsTo}
use Rattle.play_world_laws.proofs.Completing.{completion_is, completion_leads}
use Rattle.play_world_laws.proofs.ChangeEnds.{end_inside}
use Rattle.play_world_laws.proofs.QueuedLists.{links_some}
use Rattle.play_world_laws.proofs.Telling.{front, settings_lead}
use Rattle.play_world_laws.proofs.Endings.{tell_end_leads}
use Rattle.play_world_laws.proofs.StageNotes.{an_event}
use Rattle.play_world_laws.proofs.Tellings.{tell_leads}
use Rattle.play_world_laws.specs.Tellings.{IsTellingOf}

-- ---- lists

append_empty : {A : Type 0} (xs ys : List A) → xs ++ ys ≡ [] → (xs ≡ []) × (ys ≡ [])
append_empty [] ys e = (refl, e)
append_empty (x ∷ xs) ys e = absurd cc

when_empty : {A : Type 0} (b : Bool) (xs : List A) → (if b then xs else []) ≡ [] → b ≡ true → xs ≡ []
when_empty true xs e t = e
when_empty false xs e t = absurd cc

ends_empty : {A : Type 0} (w : Layout) (P : Bool → ℕ → List A) (c l : ℕ) → at_ends w P c l ≡ [] → w.is_late l ≡ true → (o : Bool) → component_at w o l ≡ c → P o l ≡ []
ends_empty w P c l e t true g =
    let both = append_empty (if nat_eq ((w.network).giver l) c then P true l else []) _ (when_empty (w.is_late l) _ e t) in
    when_empty (nat_eq ((w.network).giver l) c) (P true l) both.0 (eq-eqb _ _ g)
ends_empty w P c l e t false g =
    let both = append_empty (if nat_eq ((w.network).giver l) c then P true l else []) _ (when_empty (w.is_late l) _ e t) in
    when_empty (nat_eq ((w.network).taker l) c) (P false l) both.1 (eq-eqb _ _ g)

-- where the links queue nothing at a component no end of it does
links_empty : {A : Type 0} (w : Layout) (P : Bool → ℕ → List A) (c n : ℕ) → at_links w P c n ≡ [] → (o : Bool) (l : ℕ) → l < n → w.is_late l ≡ true → component_at w o l ≡ c → P o l ≡ []
links_empty w P c zero e o l b t g = absurd (omega arith)
links_empty w P c (suc n) e o l b t g =
    let both = append_empty (at_links w P c n) (at_ends w P c n) e in
    elim (cases_eq l n) [
      | inl z ↦ subst (λ (k : ℕ). P o k ≡ []) (sym z) (ends_empty w P c n both.1 (ap w.is_late (sym z) ∙ t) o (ap (component_at w o) (sym z) ∙ g))
      | inr z ↦ links_empty w P c n both.0 o l (omega arith) t g
    ]

-- ---- what is queued

announced_at : (n port : ℕ) (m : Note) (ms : List Note) → announced_note n port ≡ m ∷ ms → n ≡ 1
announced_at zero port m ms e = absurd cc
announced_at (suc zero) port m ms e = refl
announced_at (suc (suc n)) port m ms e = absurd cc

noted_at : (n port : ℕ) (m : Note) (ms : List Note) → notes_of_port n port ≡ m ∷ ms → HasCompletion n
noted_at zero port m ms e = absurd cc
noted_at (suc zero) port m ms e = absurd cc
noted_at (suc (suc zero)) port m ms e = absurd cc
noted_at (suc (suc (suc zero))) port m ms e = inl refl
noted_at (suc (suc (suc (suc zero)))) port m ms e = absurd cc
noted_at (suc (suc (suc (suc (suc zero))))) port m ms e = absurd cc
noted_at (suc (suc (suc (suc (suc (suc zero)))))) port m ms e = absurd cc
noted_at (suc (suc (suc (suc (suc (suc (suc zero))))))) port m ms e = inr refl
noted_at (suc (suc (suc (suc (suc (suc (suc (suc n)))))))) port m ms e = absurd cc

ended_at : (sink ended told : Bool) (n : Note) (ns : List Note) → end_note (sink && ended && not told) ≡ n ∷ ns → (sink ≡ true) × (ended ≡ true) × (told ≡ false)
ended_at true true false n ns e = (refl, refl, refl)
ended_at true true true n ns e = absurd cc
ended_at true false told n ns e = absurd cc
ended_at false ended told n ns e = absurd cc

module _ (x : PlayCast) (p : Play) (c : ℕ) where
  abbrev firsts : List Note
  firsts = state_note p.phase (p.stage c)

  abbrev settings : List Note
  settings = settings_notes x.cast p c

  abbrev ports : List Note
  ports = port_notes x.cast p c

  abbrev last : List Note
  last = end_note (ends_untold x.cast p c)

  no_port_note : ports ≡ [] → HasNoPortNote (x.cast).layout p c
  no_port_note e = record {
    outputs = λ l O t h. none l true O.below O.given_by t h;
    inputs = λ l I t h. none l false I.below I.taken_by t h;
  }
    where
      none : (l : ℕ) (o : Bool) → l < links_of x.cast → component_at (x.cast).layout o l ≡ c → ((x.cast).layout).is_late l ≡ true → HasCompletion (port_at o (p.change l)) → ⊥
      none l o b g t h =
          let z = links_empty (x.cast).layout (notes_of_end x.cast p) c (links_of x.cast) e o l b t g in
          let C = completion_is (port_at o (p.change l)) _ h in
          let y = sym z ∙ C.queued in
          cc

  -- ---- the note that is in front

  pub record IsTold : Type 0 where
    pub act : Act
    pub its : IsTellingOf (x.cast).layout c act
    pub can : CanAct (x.cast).layout p act

  end_told : (n : Note) (ns : List Note) → c < components_of x.cast → p.stage c ≢ 3 → ports ≡ [] → last ≡ n ∷ ns → CanAct (x.cast).layout p (Act.TellEnd c)
  end_told n ns b s e f = let r = ended_at (((x.cast).layout).is_sink c) ((p.flow).ended c) (p.told c) n ns f in (b, s, r.0, r.2, r.1, no_port_note e)

  port_told : (n : Note) (ns : List Note) → c < components_of x.cast → p.stage c ≢ 3 → (ms : List Note) → ports ≡ ms → ms ++ last ≡ n ∷ ns → IsTold
  port_told n ns b s [] e f = record { act = Act.TellEnd c; its = refl; can = end_told n ns b s e f }
  port_told n ns b s (m ∷ ms) e f =
      let Q = links_some (x.cast).layout (notes_of_end x.cast p) c (links_of x.cast) m ms e in
      record { act = Act.TellPort Q.link Q.side; its = Q.of_link; can = (Q.below, Q.late, noted_at (port_at Q.side (p.change Q.link)) _ Q.one Q.more Q.queued) }

  settings_told : (n : Note) (ns : List Note) → c < components_of x.cast → p.stage c ≢ 3 → (ms : List Note) → settings ≡ ms → ms ++ (ports ++ last) ≡ n ∷ ns → IsTold
  settings_told n ns b s [] e f = port_told n ns b s ports refl f
  settings_told n ns b s (m ∷ ms) e f =
      let Q = links_some (x.cast).layout (settings_of_end x.cast p) c (links_of x.cast) m ms e in
      of_side Q.side Q.link Q.below Q.late Q.of_link Q.one Q.more Q.queued
    where
      of_side : (o : Bool) (l : ℕ) → l < links_of x.cast → ((x.cast).layout).is_late l ≡ true → component_at (x.cast).layout o l ≡ c → (k : Note) (ks : List Note) → settings_of_end x.cast p o l ≡ k ∷ ks → IsTold
      of_side false l d t g k ks q = absurd cc
      of_side true l d t g k ks q = record { act = Act.TellSettings l; its = g; can = (d, t, subst (λ (j : ℕ). p.stage j ≢ 3) (sym g) s, announced_at (p.change l).step _ k ks q) }

  pub which_told : (n : Note) (ns : List Note) → c < components_of x.cast → n ∷ ns ≡ firsts ++ (settings ++ (ports ++ last)) → IsTold
  which_told n ns b e = elim (cases_eq (p.stage c) 3) [
    | inl z ↦ record { act = Act.Tell c; its = refl; can = (b, z) }
    | inr z ↦ settings_told n ns b z settings refl (sym (e ∙ ap (λ (k : List Note). k ++ (settings ++ (ports ++ last))) (no_state_note p.phase (p.stage c) z)))
  ]

  -- ---- what can be told is there

  abbrev all : List Note
  all = firsts ++ (settings ++ (ports ++ last))

  state_there : (phase stage : ℕ) → stage ≡ 3 → (rest : List Note) → state_note phase stage ++ rest ≡ [] → ⊥
  state_there phase stage z rest e = let y = sym (ap (λ (k : ℕ). state_note phase k ++ rest) z) ∙ e in cc

  end_there : (sink ended told : Bool) → sink ≡ true → ended ≡ true → told ≡ false → end_note (sink && ended && not told) ≡ [] → ⊥
  end_there sink ended told a b c e = let y = sym (λ i. end_note (a i && b i && not (c i))) ∙ e in cc

  pub some_told : (act : Act) → IsTellingOf (x.cast).layout c act → CanAct (x.cast).layout p act → all ≡ [] → ⊥
  some_told (Tell k) g C e = state_there p.phase (p.stage c) (ap p.stage (sym g) ∙ C.1) (settings ++ (ports ++ last)) e
  some_told (TellSettings l) g C e =
      let a = append_empty firsts (settings ++ (ports ++ last)) e in
      let b = append_empty settings (ports ++ last) a.1 in
      let z = links_empty (x.cast).layout (settings_of_end x.cast p) c (links_of x.cast) b.0 true l C.0 C.1 g in
      let y = sym (ap (λ (n : ℕ). announced_note n ((x.cast).output_port l)) C.3) ∙ z in
      cc
  some_told (TellPort l o) g C e =
      let a = append_empty firsts (settings ++ (ports ++ last)) e in
      let b = append_empty settings (ports ++ last) a.1 in
      let d = append_empty ports last b.1 in
      let z = links_empty (x.cast).layout (notes_of_end x.cast p) c (links_of x.cast) d.0 o l C.0 C.1 g in
      let Q = completion_is (port_at o (p.change l)) _ C.2 in
      let y = sym z ∙ Q.queued in
      cc
  some_told (TellEnd k) g C e =
      let a = append_empty firsts (settings ++ (ports ++ last)) e in
      let b = append_empty settings (ports ++ last) a.1 in
      let d = append_empty ports last b.1 in
      end_there (((x.cast).layout).is_sink c) ((p.flow).ended c) (p.told c) (ap ((x.cast).layout).is_sink (sym g) ∙ C.2) (ap (p.flow).ended (sym g) ∙ C.4) (ap p.told (sym g) ∙ C.3) d.1
  some_told Begin g C e = g
  some_told (Send k) g C e = g
  some_told (Run k) g C e = g
  some_told (Happen k) g C e = g
  some_told (Supply l) g C e = g
  some_told (Release l) g C e = g
  some_told (HandOver l) g C e = g
  some_told (HandBack l) g C e = g
  some_told (HandUnused l) g C e = g
  some_told (Announce l) g C e = g
  some_told (Conduct l) g C e = g
  some_told (RunPort l o) g C e = g
  some_told (HappenPort l o) g C e = g
  some_told (Step k n b) g C e = g

-- ---- the calls

module _ (x : PlayCast) (recent : ℕ) (p : Play) (w : World) (h : Handle) (v : World) (a : Component) (W : IsPlayWorld x recent p w) (o : a.client_out ≡ true) (s : EndNote w h v) where
  -- by which act it is
  leads : (c : ℕ) (act : Act) → IsTellingOf (x.cast).layout c act → CanAct (x.cast).layout p act → c < components_of x.cast → Names x.cast w c h → slice_get w.components (script_place x.cast c) ≡ Some a → PlayLeadsTo x recent (acted (x.cast).layout act p) v
  leads c (Tell k) g C b N e = (tell_leads x recent p w k h v a W C.0 (subst (λ (j : ℕ). Names x.cast w j h) (sym g) N) (ap (λ (j : ℕ). slice_get w.components (script_place x.cast j)) g ∙ e) o s C.1).1
  leads c (TellSettings l) g C b N e = settings_lead x recent p w l h v a W C (subst (λ (j : ℕ). Names x.cast w j h) (sym g) N) (ap (λ (j : ℕ). slice_get w.components (script_place x.cast j)) g ∙ e) o s
  leads c (TellPort l q) g C b N e = completion_leads x recent p w l q h v a W C (subst (λ (j : ℕ). Names x.cast w j h) (sym g) N) (ap (λ (j : ℕ). slice_get w.components (script_place x.cast j)) g ∙ e) o s
  leads c (TellEnd k) g C b N e = tell_end_leads x recent p w k h v a W C (subst (λ (j : ℕ). Names x.cast w j h) (sym g) N) (ap (λ (j : ℕ). slice_get w.components (script_place x.cast j)) g ∙ e) o s
  leads c Begin g C b N e = absurd g
  leads c (Send k) g C b N e = absurd g
  leads c (Run k) g C b N e = absurd g
  leads c (Happen k) g C b N e = absurd g
  leads c (Supply l) g C b N e = absurd g
  leads c (Release l) g C b N e = absurd g
  leads c (HandOver l) g C b N e = absurd g
  leads c (HandBack l) g C b N e = absurd g
  leads c (HandUnused l) g C b N e = absurd g
  leads c (Announce l) g C b N e = absurd g
  leads c (Conduct l) g C b N e = absurd g
  leads c (RunPort l q) g C b N e = absurd g
  leads c (HappenPort l q) g C b N e = absurd g
  leads c (Step k n q) g C b N e = absurd g

pub told_so : (x : PlayCast) (recent : ℕ) (p : Play) (w : World) (c : ℕ) (h : Handle) (v : World) (a : Component) → IsPlayWorld x recent p w → c < components_of x.cast → Names x.cast w c h → slice_get w.components (script_place x.cast c) ≡ Some a → a.client_out ≡ true → EndNote w h v
    → (act : Act) × IsTellingOf (x.cast).layout c act × CanAct (x.cast).layout p act × PlayLeadsTo x recent (acted (x.cast).layout act p) v
told_so x recent p w c h v a W b N e o s =
    let A = W.actors c a b e in
    let n = A.out o in
    let T = which_told x p c n.0 a.notes b (front x recent p w c a A o n.0 n.1) in
    (T.act, T.its, T.can, leads x recent p w h v a W o s c T.act T.its T.can b N e)

inside : (x : PlayCast) (recent : ℕ) (p : Play) (w : World) (c : ℕ) → IsPlayWorld x recent p w → (act : Act) → IsTellingOf (x.cast).layout c act → CanAct (x.cast).layout p act → c < components_of x.cast
inside x recent p w c W (Tell k) g C = subst (λ (j : ℕ). j < components_of x.cast) g C.0
inside x recent p w c W (TellSettings l) g C = subst (λ (j : ℕ). j < components_of x.cast) g (end_inside x recent p w W true l C.0)
inside x recent p w c W (TellPort l o) g C = subst (λ (j : ℕ). j < components_of x.cast) g (end_inside x recent p w W o l C.0)
inside x recent p w c W (TellEnd k) g C = subst (λ (j : ℕ). j < components_of x.cast) g C.0
inside x recent p w c W Begin g C = absurd g
inside x recent p w c W (Send k) g C = absurd g
inside x recent p w c W (Run k) g C = absurd g
inside x recent p w c W (Happen k) g C = absurd g
inside x recent p w c W (Supply l) g C = absurd g
inside x recent p w c W (Release l) g C = absurd g
inside x recent p w c W (HandOver l) g C = absurd g
inside x recent p w c W (HandBack l) g C = absurd g
inside x recent p w c W (HandUnused l) g C = absurd g
inside x recent p w c W (Announce l) g C = absurd g
inside x recent p w c W (Conduct l) g C = absurd g
inside x recent p w c W (RunPort l o) g C = absurd g
inside x recent p w c W (HappenPort l o) g C = absurd g
inside x recent p w c W (Step k n o) g C = absurd g

no_notes : {A : Type 0} (xs : List A) → is_empty xs ≡ true → xs ≡ []
no_notes [] e = refl
no_notes (y ∷ xs) e = absurd cc

pub queued_so : (x : PlayCast) (recent : ℕ) (p : Play) (w : World) (c : ℕ) (a : Component) (act : Act) → IsPlayWorld x recent p w → slice_get w.components (script_place x.cast c) ≡ Some a → IsTellingOf (x.cast).layout c act → CanAct (x.cast).layout p act
    → (a.client_out ≡ true) ⊎ (is_empty a.notes ≡ false)
queued_so x recent p w c a act W e g C =
    let A = W.actors c a (inside x recent p w c W act g C) e in
    either a.client_out (λ t. inl t) (λ f. either (is_empty a.notes)
    (λ t.
    let n = no_notes a.notes t in
    let none : unheard w a ≡ [] = λ i. out_of (f i) (notes_given (number_of a) w) ++ n i in
    absurd (some_told x p c act g C (sym A.notes ∙ none)))
    (λ u. inr u))

told_event : (note : Note) → is_event note ≡ true → (event : Event) × (note ≡ notes.Told event)
told_event (notes.Told event) h = (event, refl)
told_event (notes.EmptyDone n) h = absurd cc
told_event (notes.FillDone n) h = absurd cc

pub its_event : (x : PlayCast) (recent : ℕ) (p : Play) (w : World) (c : ℕ) (a : Component) (note : Note) → IsPlayWorld x recent p w → c < components_of x.cast → slice_get w.components (script_place x.cast c) ≡ Some a → a.client_out ≡ false → slice_get a.notes 0 ≡ Some note
    → (event : Event) × (note ≡ notes.Told event)
its_event x recent p w c a note W b e o f = told_event note (an_event x recent p w W c b a e (W.actors c a b e) note o f)
