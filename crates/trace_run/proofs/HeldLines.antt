-- Each line leads on with the works that are held: those that move none leave them, a claim brings one more, a finish takes one back.
use Rattle.std.proofs.Common.{◌≡◌, inl, inr, ℕ, Bool, true, false, List, [], ◌∷◌, ◌++◌, All, length, position, remove, slice_get, Option, Some, None, is_some, MatchOption, Ok, Err, refl, sym, ◌∙◌, ap, subst}
use Rattle.std.specs.Prelude.{option_and_then}
use Rattle.std.specs.Prelude.{Result}
use Rattle.omx_types.specs.declared.error.CallError.{CallError}
use Rattle.omx_types.specs.declared.error.OmxError.{OmxError}
use Rattle.omx_types.specs.declared.handle.Handle.{Handle}
use Rattle.il_machine.specs.declared.answer.Progress.{Progress}
use Rattle.il_machine.specs.World.{Component, Work, World, component_numbered, number_of}
use Rattle.il_machine.specs.Answers.{component_named, plain}
use Rattle.il_machine.specs.Buffers.{Held}
use Rattle.il_machine.specs.Claims.{ClaimedWork, WorkSeen}
use Rattle.il_machine.specs.Notes.{Took, TookNote, TookNone, TookBusy}
use Rattle.il_machine.specs.Acts.{Act, Reply}
use Rattle.il_machine.specs.Acts as acts
use Rattle.il_machine.specs.Run.{Step}
use Rattle.il_machine.specs.Whole.{Kept, Steps}
use Rattle.il_machine.proofs.Places.{is_first_place, none_at, passes_at}
use Rattle.machine_laws.proofs.Every.{at_place, from_places, push_last_there}
use Rattle.machine_laws.proofs.Keys.{none_or_some, there_is}
use Rattle.history_laws.specs.Works.{has_work_out}
use Rattle.history_laws.proofs.GivenHeaders.{resolved}
use Rattle.history_laws.proofs.HeldOut.{placed_in}
use Rattle.history_laws.proofs.Named.{is_named, named_number, named_there as named_there_at}
use Rattle.act_text.specs.declared.act.TextAct.{TextAct}
use Rattle.act_text.specs.declared.act.TextAct.TheVariants as lines
use Rattle.act_text.specs.declared.reply.TextReply.{TextReply}
use Rattle.act_text.specs.declared.reply.TextReply.TheVariants as texts
use Rattle.act_text.specs.declared.name.PortName.{PortName}
use Rattle.header_core.specs.BufferHeader.{with_content}
use Rattle.script_lang.specs.declared.form.TraceForm.{TraceForm}
use Rattle.script_lang.specs.declared.form.TraceForm.TheVariants as forms
use Rattle.trace_run.specs.declared.names.NamedComponent.{NamedComponent}
use Rattle.trace_run.specs.declared.reply.LineAnswer.{LineAnswer}
use Rattle.trace_run.specs.declared.reply.LineAnswer.TheVariants as answers
use Rattle.trace_run.specs.Closing.{HaveNoWork}
use Rattle.trace_run.specs.Naming.{Moment, Names, after_handing, handle_in, handle_of, in_hand, with_component}
use Rattle.trace_run.specs.Replying.{LineReply, Plain}
use Rattle.trace_run.specs.Lines.{Entry, IsAct, IsNoAct, ActLine, EtbLine, Line, Answered, is_too_long, line_flags, taking, work_out}
use Rattle.trace_run.specs.Standing.{Parts, IsNamed, IsSeated, HasMoment, Leads, LeadsTo, IsMoment}
use Rattle.held_work_laws.specs.Places.{IsWorkless}
use Rattle.held_work_laws.specs.Works.{HeldWork, IsHeld, IsOutSomewhere}
use Rattle.trace_run.specs.Works.{AreHeld, OnDesk, IsDeskMoment, HasDeskMoment, LeadsAll, LeadsAllTo, ClaimedSo, is_held_by, IsBroughtBack, FinishedSo}
use Rattle.trace_run.proofs.Ends.{and_some, named_more, seated_there}
use Rattle.trace_run.proofs.Held.{AreWorkless, all_claimed, all_finished, all_named, all_run}
use Rattle.trace_run.proofs.Handed.{when_some}
use Rattle.trace_run.proofs.Invalidating.{handle_itself, named_there}
use Rattle.trace_run.proofs.Lasting.{none_here}
use Rattle.trace_run.proofs.Seats.{handle_is, place_named}
use Rattle.trace_run.proofs.Standing.{run_of_one, stood_after}

-- ---- lines that move no work

abbrev pub IsStillAct : TextAct → Type 0
IsStillAct (lines.Claim component) = ⊥
IsStillAct (lines.Finish component) = ⊥
IsStillAct other = Unit {0}

-- the line moves no work
abbrev pub IsStill : TraceForm → Type 0
IsStill (forms.Act act) = IsStillAct act
IsStill other = Unit {0}

-- what is left of the acts but for those that move a work
pub still_unless : (act : TextAct) → ((component : List ℕ) → act ≡ lines.Claim component → ⊥) → ((component : List ℕ) → act ≡ lines.Finish component → ⊥) → IsStillAct act
still_unless (lines.Claim component) k f = k component refl
still_unless (lines.Finish component) k f = f component refl
still_unless other k f = tt

pub form_still : (form : TraceForm) → ((act : TextAct) → form ≡ forms.Act act → ⊥) → IsStill form
form_still (forms.Act act) n = absurd (n act refl)
form_still other n = tt

one_workless : (a : Act) (r : Reply) (entries : List Entry) → entries ≡ (a, r) ∷ [] → IsWorkless a r → AreWorkless entries
one_workless a r entries e W = subst AreWorkless (sym e) (W, tt)

taking_workless : (h : Handle) (result : Result Took OmxError) (progress : Progress) → AreWorkless (taking h result progress)
taking_workless h (Ok (TookNote taken)) progress = ((λ n. (refl, refl)), ((λ n. (refl, refl)), tt))
taking_workless h (Ok TookNone) progress = ((λ n. (refl, refl)), tt)
taking_workless h (Ok TookBusy) progress = ((λ n. (refl, refl)), tt)
taking_workless h (Err error) progress = ((λ n. (refl, refl)), tt)

act_workless : (at : Moment) (act : TextAct) (entries : List Entry) (reply : LineReply) (next : Names) → IsStillAct act → ActLine at act entries reply next → AreWorkless entries
act_workless at (lines.Take component) entries reply next I L = subst AreWorkless (sym (L.2).both) (taking_workless (handle_of at.names component) L.0 L.1)
act_workless at (lines.End component) entries reply next I L = subst AreWorkless (sym L.none) tt
act_workless at (lines.Claim component) entries reply next I L = absurd I
act_workless at (lines.Finish component) entries reply next I L = absurd I
act_workless at other entries reply next I L = one_workless _ L.0 entries (L.1).one (λ k. (refl, refl))

-- by whether the header is in hand
by_hand : (o : Option Held) (N : Type 0) (Then : Held → Type 0) (R : Type 0) → MatchOption o N Then → (N → R) → ((h : Held) → Then h → R) → R
by_hand None N Then R m n t = n m
by_hand (Some h) N Then R m n t = t h m

none_workless : (names next : Names) (said : LineReply) (entries : List Entry) (reply : LineReply) → IsNoAct names said entries reply next → AreWorkless entries
none_workless names next said entries reply N = subst AreWorkless (sym N.none) tt

etb_workless : (long : Bool) (at : Moment) (name : List ℕ) (port : PortName) (h : Held) (entries : List Entry) (reply : LineReply) (next : Names) → EtbLine long at name port h entries reply next → AreWorkless entries
etb_workless true at name port h entries reply next N = none_workless at.names next _ entries reply N
etb_workless false at name port h entries reply next (result, A, n) = one_workless _ _ entries A.one (λ k. (refl, refl))

line_workless : (at : Moment) (form : TraceForm) (entries : List Entry) (reply : LineReply) (next : Names) → IsStill form → Line at form entries reply next → AreWorkless entries
line_workless at (forms.Act act) entries reply next I L = act_workless at act entries reply next I L
line_workless at (forms.Get component kind) entries reply next I (result, A, n) = one_workless _ _ entries A.one (λ k. (refl, refl))
line_workless at (forms.Alloc header port) entries reply next I (result, A, n) = one_workless _ _ entries A.one (λ k. (refl, refl))
line_workless at (forms.UseBuf header port size) entries reply next I (result, A, n) = one_workless _ _ entries A.one (λ k. (refl, refl))
line_workless at (forms.FreeBuf header port) entries reply next I L =
    let Then : Held → Type 0 =
    λ h. (result : Result Bool OmxError) × IsAct at.names (acts.FreeBuffer (handle_of at.names port.component) port.index h.number) (acts.Freed result) entries reply × (next ≡ after_handing header h result at.names) in
    by_hand (in_hand at.names header) _ Then (AreWorkless entries) L (none_workless at.names next _ entries reply) (λ h x. one_workless _ _ entries (x.1).one (λ k. (refl, refl)))
line_workless at (forms.Etb header port bytes eos) entries reply next I L =
    let filled = λ (h : Held). with_content bytes (line_flags eos) h in
    by_hand (in_hand at.names header) _ (λ h. EtbLine (is_too_long (filled h)) at header port (filled h) entries reply next) (AreWorkless entries) L (none_workless at.names next _ entries reply)
    (λ h x. etb_workless (is_too_long (filled h)) at header port (filled h) entries reply next x)
line_workless at (forms.Ftb header port) entries reply next I L =
    let Then : Held → Type 0 =
    λ h. (result : Result (Unit {0}) OmxError) × IsAct at.names (acts.FillThisBuffer (handle_of at.names port.component) port.index h) (acts.Plain result) entries reply × (next ≡ after_handing header h result at.names) in
    by_hand (in_hand at.names header) _ Then (AreWorkless entries) L (none_workless at.names next _ entries reply) (λ h x. one_workless _ _ entries (x.1).one (λ k. (refl, refl)))

-- whoever was given a handle has it still
abbrev pub KeepsNamed : Parts → Parts → TraceForm → Type 0
KeepsNamed old new form = (reply : LineReply) (at next : Moment) → IsMoment old at → IsMoment new next → Answered at form reply next → (h : Handle) → IsNamed old.components h → IsNamed new.components h

pub keeps_named : (old new : Parts) (form : TraceForm) → new.components ≡ old.components → KeepsNamed old new form
keeps_named old new form e reply at next S T A h n = subst (λ (cs : List NamedComponent). IsNamed cs h) (sym e) n

named_with : (component : List ℕ) (result : Result Handle CallError) (names : Names) (h : Handle) → IsNamed names.components h → IsNamed (with_component component result names).components h
named_with component (Ok handle) names h n = named_more names.components (record { name = component; handle = handle }) h n
named_with component (Err error) names h n = n

pub keeps_named_got : (old new : Parts) (component kind : List ℕ) → KeepsNamed old new (forms.Get component kind)
keeps_named_got old new component kind reply at next S T A h n =
    let x = A.says in
    let before : IsNamed (at.names).components h = subst (λ (m : Names). IsNamed m.components h) (sym S.names) n in
    let after : IsNamed (next.names).components h = subst (λ (m : Names). IsNamed m.components h) (sym x.2) (named_with component x.0 at.names h before) in
    subst (λ (m : Names). IsNamed m.components h) T.names after

-- it leads on with the same works
leads_still : (old new : Parts) (works : List HeldWork) (form : TraceForm) (reply : LineReply) → IsStill form → KeepsNamed old new form → Leads old new form reply
    → LeadsAll (record { parts = old; works = works }) (record { parts = new; works = works }) form reply
leads_still old new works form reply I N f at S =
    let x = f at S.stood in
    let next = x.0 in
    let A = x.2 in
    let held = all_run old.components works at.world A.entries next.world (S.stood).sound A.run (line_workless at form A.entries reply next.names I A.says) S.held in
    (next, record { stood = x.1; held = all_named old.components new.components works next.world (N reply at next S.stood x.1 A) held }, A)

pub still_to : (old new : Parts) (works : List HeldWork) (form : TraceForm) (answer : LineAnswer) → IsStill form → KeepsNamed old new form → LeadsTo old new form answer
    → LeadsAllTo (record { parts = old; works = works }) (record { parts = new; works = works }) form answer
still_to old new works form answer I N (reply, means, leads) = (reply, means, leads_still old new works form reply I N leads)

-- ---- the component of a handle

module _ (kept : Parts) (at : Moment) (S : IsMoment kept at) where
  abbrev w : World
  w = at.world

  seated : All (IsSeated kept.components) w.components
  seated = seated_there kept.components kept.graph w S.world S.ends.seated

  -- the two handles were given to lines, and have one number
  one_handle : (g h : Handle) → IsNamed kept.components g → IsNamed kept.components h → g.generation ≡ h.generation → g ≡ h
  one_handle g h (i, a) (j, b) e =
      let x = and_some (slice_get kept.components i) _ a in
      let y = and_some (slice_get kept.components j) _ b in
      sym x.2 ∙ (S.ends.apart.one i j x.0 y.0 x.1 y.1 (ap (λ (z : Handle). z.generation) x.2 ∙ (e ∙ sym (ap (λ (z : Handle). z.generation) y.2))) ∙ y.2)

  -- the component of a work that is held is the one that its handle names
  pub named_held : (x : HeldWork) → IsNamed kept.components x.handle → (H : IsHeld w x) → component_named x.handle w.components ≡ Some (H.out).component
  named_held x N H =
      let O = H.out in
      let there = sym (is_named x.handle.generation w) ∙ O.there in
      let i = placed_in x.handle.generation w.components O.component there in
      let number : number_of O.component ≡ x.handle.generation = named_number x.handle.generation w.components O.component there in
      let seat = at_place (IsSeated kept.components) w.components i.0 O.component seated i.1 in
      let same = one_handle (O.component).handle x.handle seat.0.1 N number in
      named_there w i.0 O.component x.handle S.sound i.1 same

  -- a component whose work is out has one that is held, by its handle
  pub held_named : (works : List HeldWork) (h : Handle) (c : Component) (work : Work) → AreHeld kept.components works w → component_named h w.components ≡ Some c → c.work ≡ Some work
      → (place : ℕ) × (x : HeldWork) × (slice_get works place ≡ Some x) × (is_held_by h x ≡ true)
  held_named works h c work H n o =
      let p = place_named h w.components c n in
      let seat = at_place (IsSeated kept.components) w.components p.0 c seated p.1 in
      let named : component_numbered (number_of c) w ≡ Some c = is_named (number_of c) w ∙ named_there_at 0 w.numbered p.0 w.components c (S.sound).rising p.1 in
      let out : has_work_out (number_of c) w ≡ true = ap (λ (q : Option Component). is_some (option_and_then (λ (d : Component). d.work) q)) named ∙ ap is_some o in
      let a = (H.out).whole (number_of c) out in
      let x = and_some (slice_get works a.0) _ a.1 in
      let N = at_place (λ (y : HeldWork). IsNamed kept.components y.handle) works a.0 x.0 H.named x.1 in
      let same : (x.0).handle ≡ c.handle = one_handle (x.0).handle c.handle N seat.0.1 x.2 in
      (a.0, x.0, x.1, handle_itself (x.0).handle h (same ∙ p.2))

-- ---- a claim

claimed_named : (old : Parts) (at : Moment) (S : IsMoment old at) (h : Handle) (v : World) (work : WorkSeen) → Step at.world (acts.Claim h) (acts.Claimed (Ok (ClaimedWork work))) v → IsNamed old.components h
claimed_named old at S h v work step =
    let w = at.world in
    let y = resolved plain w v h (ClaimedWork work) _ step in
    let named : component_named h w.components ≡ Some y.1 = ap (option_and_then (slice_get w.components)) (y.2).place ∙ (y.2).there in
    let p = place_named h w.components y.1 named in
    subst (IsNamed old.components) p.2 (at_place (IsSeated old.components) w.components p.0 y.1 (seated_there old.components old.graph w S.world S.ends.seated) p.1).0.1

pub leads_claimed : (old : Parts) (graph : Kept) (works news : List HeldWork) (h : Handle) (component : List ℕ) (reply : TextReply) → h ≡ handle_in old.components component → Steps old.graph graph (ClaimedSo h works news reply)
    → LeadsAll (record { parts = old; works = works }) (record { parts = record old { graph = graph }; works = news }) (forms.Act (lines.Claim component)) (Plain reply)
leads_claimed old graph works news h component reply is steps at S =
    let w = at.world in
    let T = S.stood in
    let x = steps w T.world in
    let v = x.0 in
    let C = x.2 in
    let a : Act = acts.Claim h in
    let r : Reply = acts.Claimed C.answer in
    let named : h ≡ handle_of at.names component = is ∙ ap (λ (n : Names). handle_of n component) (sym T.names) in (
      record at { world = v },
      record {
        stood = stood_after old at graph a r v T tt C.step x.1 tt refl refl tt;
        held = all_claimed old.components works w h v T.sound (claimed_named old at T h v) S.held C.answer news C.step C.works_are;
      },
      record {
        entries = (a, r) ∷ [];
        says = (r, record { one = ap (λ (k : Handle). (acts.Claim k, r) ∷ []) named; says = C.prints at.names }, refl);
        run = run_of_one w a r v tt C.step;
      },
    )

-- ---- a finish

when_none : {A : Type 0} (o : Option A) (N : Type 0) (P : A → Type 0) → o ≡ None → N → MatchOption o N P
when_none o N P e h = rw e h

module _ (old : Parts) (works : List HeldWork) (h : Handle) (component : List ℕ) (is : h ≡ handle_in old.components component) where
  abbrev before : OnDesk
  before = record { parts = old; works = works }

  named_so : (at : Moment) → IsMoment old at → handle_of at.names component ≡ h
  named_so at T = ap (λ (n : Names). handle_of n component) T.names ∙ sym is

  none_out : (at : Moment) → IsDeskMoment before at → position (is_held_by h) works ≡ None → work_out at component ≡ None
  none_out at S p =
      let w = at.world in
      let n = named_so at S.stood in
      ap (λ (k : Handle). option_and_then (λ (c : Component). c.work) (component_named k w.components)) n ∙ elim (none_or_some (component_named h w.components)) [
        | inl gone ↦ ap (option_and_then (λ (c : Component). c.work)) gone
        | inr (c, named) ↦ ap (option_and_then (λ (c : Component). c.work)) named ∙ elim (none_or_some c.work) [
          | inl free ↦ free
          | inr (work, out) ↦
              let x = held_named old at S.stood works h c work S.held named out in
              let f : false ≡ true = sym (none_at (is_held_by h) works x.0 x.1 (sym (is_first_place (is_held_by h) works) ∙ p) x.2) ∙ x.3 in
              absurd cc
        ]
      ]

  leads_not_out : position (is_held_by h) works ≡ None → LeadsAll before before (forms.Act (lines.Finish component)) (Plain texts.NotOut)
  leads_not_out p at S =
      (at, S, record { entries = []; says = when_none (work_out at component) _ _ (none_out at S p) (record { none = refl; says = refl; same = refl }); run = refl })

  leads_back : (graph : Kept) (place : ℕ) (x : HeldWork) (frames : ℕ) → position (is_held_by h) works ≡ Some place → slice_get works place ≡ Some x → IsBroughtBack old.graph graph x frames
      → LeadsAll before (record { parts = record old { graph = graph }; works = remove works place }) (forms.Act (lines.Finish component)) (Plain (texts.Finished frames))
  leads_back graph place x frames p there back at S =
      let w = at.world in
      let T = S.stood in
      let H = S.held in
      let held = at_place (IsHeld w) works place x (H.out).each there in
      let y = back w T.world held in
      let v = y.0 in
      let B = y.2 in
      let a : Act = acts.Finish B.done in
      let z = passes_at (is_held_by h) works place (sym (is_first_place (is_held_by h) works) ∙ p) in
      let s : Some z.0 ≡ Some x = sym z.1 ∙ there in
      let same : z.0 ≡ x = cc in
      let mine : x.handle ≡ h = ap (λ (u : HeldWork). u.handle) (sym same) ∙ handle_is (z.0).handle h z.2 in
      let N = at_place (λ (u : HeldWork). IsNamed old.components u.handle) works place x H.named there in
      let O = held.out in
      let c = named_held old at T x N held in
      let n = named_so at T in
      let out : work_out at component ≡ Some O.work =
      ap (λ (k : Handle). option_and_then (λ (d : Component). d.work) (component_named k w.components)) (n ∙ sym mine) ∙ (ap (option_and_then (λ (d : Component). d.work)) c ∙ O.out) in (
        record at { world = v },
        record {
          stood = stood_after old at graph a acts.Finished v T B.meets B.step y.1 tt refl refl tt;
          held = all_finished old.components works place x frames w v T.sound there B H;
        },
        record {
          entries = (a, acts.Finished) ∷ [];
          says = when_some (work_out at component) _ _ O.work out (
            B.done,
            record {
              one = refl;
              component_is = B.component ∙ ap (λ (k : Handle). k.generation) (mine ∙ sym n);
              whole = B.fault_is;
              says = ap (λ (k : ℕ). Plain (texts.Finished k)) (sym B.frames_are);
            },
            refl,
          );
          run = run_of_one w a acts.Finished v B.meets B.step;
        },
      )

  leads_at : (graph : Kept) (news : List HeldWork) (reply : TextReply) (o : Option ℕ) → position (is_held_by h) works ≡ o
      → MatchOption o ((reply ≡ texts.NotOut) × (graph ≡ old.graph) × (news ≡ works)) (λ place. MatchOption (slice_get works place) ⊥ (λ x. (frames : ℕ) × (reply ≡ texts.Finished frames) × (news ≡ remove works place) × IsBroughtBack old.graph graph x frames))
      → LeadsAll before (record { parts = record old { graph = graph }; works = news }) (forms.Act (lines.Finish component)) (Plain reply)
  leads_at graph news reply None p (said, same, none) =
      subst (λ (r : TextReply). LeadsAll before (record { parts = record old { graph = graph }; works = news }) (forms.Act (lines.Finish component)) (Plain r)) (sym said)
      (subst (λ (k : Kept). LeadsAll before (record { parts = record old { graph = k }; works = news }) (forms.Act (lines.Finish component)) (Plain texts.NotOut)) (sym same)
      (subst (λ (ws : List HeldWork). LeadsAll before (record { parts = old; works = ws }) (forms.Act (lines.Finish component)) (Plain texts.NotOut)) (sym none) (leads_not_out p)))
  leads_at graph news reply (Some place) p F =
      let x = there_is (slice_get works place) _ F in
      let y = x.2 in
      subst (λ (r : TextReply). LeadsAll before (record { parts = record old { graph = graph }; works = news }) (forms.Act (lines.Finish component)) (Plain r)) (sym y.1)
      (subst (λ (ws : List HeldWork). LeadsAll before (record { parts = record old { graph = graph }; works = ws }) (forms.Act (lines.Finish component)) (Plain (texts.Finished y.0))) (sym y.2)
      (leads_back graph place x.0 y.0 p x.1 y.3))

  pub leads_finished : (graph : Kept) (news : List HeldWork) (reply : TextReply) → FinishedSo old.graph graph h works news reply
      → LeadsAll before (record { parts = record old { graph = graph }; works = news }) (forms.Act (lines.Finish component)) (Plain reply)
  leads_finished graph news reply F = leads_at graph news reply (position (is_held_by h) works) refl F

-- ---- what the call for the line comes to

pub finished_none : (old new : Kept) (h : Handle) (works news : List HeldWork) → position (is_held_by h) works ≡ None → new ≡ old → news ≡ works → FinishedSo old new h works news texts.NotOut
finished_none old new h works news p e n = rw p (refl, e, n)

pub finished_some : (old new : Kept) (h : Handle) (works news : List HeldWork) (place : ℕ) (x : HeldWork) (frames : ℕ) → position (is_held_by h) works ≡ Some place → slice_get works place ≡ Some x → news ≡ remove works place → IsBroughtBack old new x frames
    → FinishedSo old new h works news (texts.Finished frames)
finished_some old new h works news place x frames p there n back = rw p (rw there (frames, refl, n, back))

-- ---- the work at a place is out in some world

pub out_somewhere : (kept : OnDesk) (place : ℕ) (x : HeldWork) → HasDeskMoment kept → slice_get kept.works place ≡ Some x → IsOutSomewhere (kept.parts).graph x
out_somewhere kept place x S there =
    let T = S.stood in
    let w = S.at.world in
    let held = at_place (IsHeld w) kept.works place x (T.held.out).each there in
    let N = at_place (λ (y : HeldWork). IsNamed (kept.parts).components y.handle) kept.works place x T.held.named there in
    record { world = w; stands = T.stood.world; sound = T.stood.sound; held = held; named = named_held kept.parts S.at T.stood x N held }

-- ---- the last one comes back

remove_last : (works : List HeldWork) (x : HeldWork) → remove (works ++ x ∷ []) (length works) ≡ works
remove_last [] x = refl
remove_last (y ∷ works) x = ap (λ (ws : List HeldWork). y ∷ ws) (remove_last works x)

pub last_back : (old : Parts) (graph : Kept) (front : List HeldWork) (x : HeldWork) (frames : ℕ) → IsBroughtBack old.graph graph x frames → HasDeskMoment (record { parts = old; works = front ++ x ∷ [] }) → HasDeskMoment (record { parts = record old { graph = graph }; works = front })
last_back old graph front x frames back S =
    let w = S.at.world in
    let T = S.stood.stood in
    let H = S.stood.held in
    let there = push_last_there front x in
    let y = back w T.world (at_place (IsHeld w) (front ++ x ∷ []) (length front) x (H.out).each there) in
    let v = y.0 in
    let B = y.2 in
    record {
      at = record S.at { world = v };
      stood = record {
        stood = stood_after old S.at graph (acts.Finish B.done) acts.Finished v T B.meets B.step y.1 tt refl refl tt;
        held = subst (λ (ws : List HeldWork). AreHeld old.components ws v) (remove_last front x) (all_finished old.components (front ++ x ∷ []) (length front) x frames w v T.sound there B H);
      };
    }

-- ---- an answer

pub end_to : (kept : OnDesk) (component : List ℕ) → LeadsAllTo kept kept (forms.Act (lines.End component)) (answers.Plain texts.NotOut)
end_to kept component = (Plain texts.NotOut, refl, λ at S. (at, S, record { entries = []; says = record { none = refl; says = refl; same = refl }; run = refl }))

pub stood_led : (old new : OnDesk) (form : TraceForm) (answer : LineAnswer) → LeadsAllTo old new form answer → HasDeskMoment old → HasDeskMoment new
stood_led old new form answer (reply, means, leads) S = let x = leads S.at S.stood in record { at = x.0; stood = x.1 }

pub stood_of : (kept : OnDesk) → HasDeskMoment kept → HasMoment kept.parts
stood_of kept S = record { at = S.at; stood = (S.stood).stood }

-- ---- no work is held

pub none_held : (parts : Parts) → HasDeskMoment (record { parts = parts; works = [] }) → HaveNoWork (parts.graph).looks
none_held parts S =
    let w = S.at.world in
    let T = S.stood.stood in
    none_here parts.graph w T.world (from_places (λ (c : Component). c.work ≡ None) w.components (λ i c e. elim (none_or_some c.work) [
      | inl free ↦ free
      | inr (work, out) ↦
          let named : component_numbered (number_of c) w ≡ Some c = is_named (number_of c) w ∙ named_there_at 0 w.numbered i w.components c (T.sound).rising e in
          let there : has_work_out (number_of c) w ≡ true = ap (λ (q : Option Component). is_some (option_and_then (λ (d : Component). d.work) q)) named ∙ ap is_some out in
          let a = (S.stood.held.out).whole (number_of c) there in
          absurd a.1
    ]))
