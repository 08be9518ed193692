-- Where no header is at home with a client, and none is asked for, none comes to one.
use Rattle.std.proofs.Common.{◌≡◌, ◌≢◌, ◌⊎◌, inl, inr, ℕ, Bool, true, false, List, [], ◌∷◌, ◌++◌, drop, slice_get, Option, Some, None, option_map, Ok, refl, sym, ◌∙◌, ap, subst}
use Rattle.std.proofs.lemmas.Bool.{cases_eq}
use Rattle.omx_types.specs.declared.handle.Handle.{Handle}
use Rattle.omx_types.specs.declared.command.Note.{Note}
use Rattle.omx_types.specs.declared.command.Note.TheVariants.{Told, EmptyDone, FillDone}
use Rattle.il_machine.specs.declared.header.Home.TheVariants as homes
use Rattle.il_machine.specs.declared.header.Owner.{Owner}
use Rattle.il_machine.specs.declared.header.Owner.TheVariants as owners
use Rattle.il_machine.specs.World.{Component, HeaderRecord, World}
use Rattle.il_machine.specs.Headers.{Once, empty_load, find_header, state_of, without}
use Rattle.il_machine.specs.Look.{look}
use Rattle.il_machine.specs.Answers.{plain}
use Rattle.il_machine.specs.Census.{note_numbers}
use Rattle.il_machine.specs.Notes.{Taken, TakenEvent, TookNote, TookNone, TookBusy, TakeFrom}
use Rattle.il_machine.specs.Acts.{Act, Reply}
use Rattle.il_machine.specs.Acts as acts
use Rattle.il_machine.specs.Run.{Meets, Step}
use Rattle.il_machine.specs.Sound.{Sound, IsOwnedSo, home_for}
use Rattle.il_machine.specs.Trails.{Move, With, home_stop}
use Rattle.machine_laws.proofs.Finding.{push_else, push_last, without_else, without_same}
use Rattle.machine_laws.proofs.Keys.{there_is}
use Rattle.machine_laws.proofs.Parts.{parts_of}
use Rattle.history_laws.specs.ClientHeaders.{IsClients, given_out, header_in, number_out}
use Rattle.history_laws.proofs.BufferSteps.{empty_first, filled_first}
use Rattle.history_laws.proofs.Carried.{AreBelow, Carried, Gone, Made, Moved, Several, Still, none_made}
use Rattle.history_laws.proofs.ClientHeaders.{carried_once, settled_found}
use Rattle.history_laws.proofs.Closing.{times_settle}
use Rattle.history_laws.proofs.ComingHeaders.{steps_come}
use Rattle.history_laws.proofs.GivenHeaders.{resolved}
use Rattle.history_laws.proofs.Homes.{found_state, noted_owner, set_in}
use Rattle.history_laws.proofs.Outcome.{Done, Nothing, Outcome, Turn, turn}
use Rattle.history_laws.proofs.Owners.{Settles, Stand, stand_of}
use Rattle.history_laws.proofs.Steps.{step_comes}

-- no header is at home with a client
abbrev pub HasNoClients : World → Type 0
HasNoClients w = (number : ℕ) (r : HeaderRecord) → find_header number w.headers ≡ Some r → r.state.home ≢ homes.Client

-- ---- homes stay

record HadHome (hs : List HeaderRecord) (number : ℕ) (r : HeaderRecord) : Type 0 where
  was : HeaderRecord
  found : find_header number hs ≡ Some was
  same : r.state.home ≡ was.state.home

had_itself : (hs : List HeaderRecord) (number : ℕ) (r : HeaderRecord) → find_header number hs ≡ Some r → HadHome hs number r
had_itself hs number r f = record { was = r; found = f; same = refl }

-- it was there, with its home, or is new and at home
abbrev HadOrNew : List HeaderRecord → ℕ → HeaderRecord → Type 0
HadOrNew hs number r = HadHome hs number r ⊎ (With r.state.owner ≡ home_stop r.state.home)

carried_home : (w v : World) (ms : List Move) (number : ℕ) (r : HeaderRecord) → Once w.headers → AreBelow w → Carried w ms v → find_header number v.headers ≡ Some r → HadOrNew w.headers number r
carried_home w v ms number r once B (Still S) f = inl (had_itself w.headers number r (ap (find_header number) (sym S.headers) ∙ f))
carried_home w v ms number r once B (Made M) f = elim (cases_eq number w.made) [
  | inl is ↦
      let new : HeaderRecord = record { state = M.state; load = empty_load M.memory } in
      let none : find_header new.state.number w.headers ≡ None = ap (λ (k : ℕ). find_header k w.headers) M.number ∙ none_made w B in
      let here : find_header number v.headers ≡ Some new = ap (find_header number) M.headers ∙ (ap (λ (k : ℕ). find_header k (w.headers ++ new ∷ [])) (is ∙ sym M.number) ∙ push_last w.headers new none) in
      let s : Some r ≡ Some new = sym f ∙ here in
      let q : r ≡ new = cc in
      inr (subst (λ (x : HeaderRecord). With x.state.owner ≡ home_stop x.state.home) (sym q) M.home)
  | inr a ↦ inl (had_itself w.headers number r (sym (ap (find_header number) M.headers ∙ push_else number w.headers (record { state = M.state; load = empty_load M.memory }) (λ k. a (sym k ∙ M.number))) ∙ f))
]
carried_home w v ms number r once B (Gone M) f = elim (cases_eq number M.number) [
  | inl is ↦
      let none : find_header number v.headers ≡ None = ap (find_header number) M.headers ∙ (ap (λ (k : ℕ). find_header k (without M.number w.headers)) is ∙ without_same M.number w.headers once) in
      let e : None ≡ Some r = sym none ∙ f in
      absurd cc
  | inr a ↦ inl (had_itself w.headers number r (sym (ap (find_header number) M.headers ∙ without_else M.number number w.headers a) ∙ f))
]
carried_home w v ms number r once B (Moved M) f = elim (cases_eq number M.number) [
  | inl is ↦
      let there : find_header number v.headers ≡ Some M.now = ap (λ (k : ℕ). find_header k v.headers) is ∙ (M.replaced).here in
      let s : Some r ≡ Some M.now = sym f ∙ there in
      let q : r ≡ M.now = cc in
      inl (record { was = M.was; found = ap (λ (k : ℕ). find_header k w.headers) is ∙ (M.replaced).was; same = ap (λ (x : HeaderRecord). x.state.home) q ∙ M.home })
  | inr a ↦ inl (had_itself w.headers number r (sym ((M.replaced).others number a) ∙ f))
]
carried_home w v ms number r once B (Several M) f = elim ((M.headers).each number) [
  | inl x ↦ inl (had_itself w.headers number r (sym x.0 ∙ f))
  | inr P ↦
      let s : Some r ≡ Some P.now = sym f ∙ P.here in
      let q : r ≡ P.now = cc in
      inl (record { was = P.was; found = P.found; same = ap (λ (x : HeaderRecord). x.state.home) q ∙ P.home })
]

-- over the close-out
settled_home : (hs ks ls : List HeaderRecord) (number : ℕ) (r was : HeaderRecord) → stand_of was ≡ stand_of r → HadOrNew hs number was → HadOrNew hs number r
settled_home hs ks ls number r was q (inl H) = inl (record { was = H.was; found = H.found; same = ap (λ (y : Stand). y.home) (sym q) ∙ H.same })
settled_home hs ks ls number r was q (inr new) = inr (subst (λ (y : Stand). With y.owner ≡ home_stop y.home) q new)

outcome_home : (w : World) (t : Turn) (v : World) (number : ℕ) (r : HeaderRecord) → Sound w → Outcome w t v → find_header number v.headers ≡ Some r → HadOrNew w.headers number r
outcome_home w t v number r S (Nothing e m) f = inl (had_itself w.headers number r (ap (λ (y : World). find_header number y.headers) (sym e) ∙ f))
outcome_home w t v number r S (Done C E) f =
    let once = carried_once w t.after t.moves S.once (parts_of w S).below E.carried in
    let T : Settles t.after.headers v.headers = times_settle C.steps t.after v C.by_steps once in
    let x = settled_found number r (find_header number t.after.headers) (sym (T.stands number) ∙ ap (option_map stand_of) f) in
    settled_home w.headers t.after.headers v.headers number r x.0 x.2 (carried_home w t.after t.moves number x.0 S.once (parts_of w S).below E.carried x.1)

-- ---- notes

-- a header in a note is at home with the client
noted_home : (w : World) (number k : ℕ) (r : HeaderRecord) → Sound w → find_header number w.headers ≡ Some r → r.state.owner ≡ owners.Notice k → r.state.home ≡ homes.Client
noted_home w number k r S f o =
    let I = set_in w number r S f in
    let own : IsOwnedSo r.state (owners.Notice k) = subst (λ (x : Owner). IsOwnedSo r.state x) o I.owner in
    I.home ∙ ap (home_for r.state.port) own.1

module _ (w v : World) (S : Sound w) (N : HasNoClients w) where
  take_none : (i : ℕ) (c : Component) (out : Bool) (o : Option Note) (taken : Taken) → slice_get w.components i ≡ Some c → slice_get c.notes 0 ≡ o → TakeFrom w i c out o (Ok (TookNote taken)) v → header_in taken ≡ None
  take_none i c true o taken at e a = let no : TookNote taken ≡ TookBusy = cc in absurd cc
  take_none i c false None taken at e a = let no : TookNote taken ≡ TookNone = cc in absurd cc
  take_none i c false (Some (Told event)) taken at e a = let is : taken ≡ TakenEvent event = cc in ap header_in is
  take_none i c false (Some (EmptyDone number)) taken at e a =
      let r = there_is (find_header number w.headers) _ a in
      let own = noted_owner w i c number (note_numbers (drop 1 c.notes)) r.0 S at (empty_first c.notes number e) r.1 in
      absurd (N number r.0 r.1 (noted_home w number _ r.0 S r.1 own))
  take_none i c false (Some (FillDone number)) taken at e a =
      let r = there_is (find_header number w.headers) _ a in
      let own = noted_owner w i c number (note_numbers (drop 1 c.notes)) r.0 S at (filled_first c.notes number e) r.1 in
      absurd (N number r.0 r.1 (noted_home w number _ r.0 S r.1 own))

  note_none : (h : Handle) (taken : Taken) → Step w (acts.TakeNote h) (acts.Took (Ok (TookNote taken))) v → header_in taken ≡ None
  note_none h taken s =
      let y = resolved plain w v h (TookNote taken) (λ i c. TakeFrom w i c c.client_out (slice_get c.notes 0) (Ok (TookNote taken)) v) s in
      take_none y.0 y.1 y.1.client_out (slice_get y.1.notes 0) taken (y.2).there refl y.3

-- ---- a step

-- the act asks for no header
abbrev pub AsksNone : Act → Type 0
AsksNone (acts.AllocateBuffer h port) = ⊥
AsksNone (acts.UseBuffer h port bytes) = ⊥
AsksNone _ = Unit {0}

pub gives_none : (w : World) (a : Act) (r : Reply) (v : World) → Sound w → HasNoClients w → AsksNone a → Step w a r v → given_out a r ≡ None
gives_none w (acts.AllocateBuffer h port) r v S N n s = absurd n
gives_none w (acts.UseBuffer h port bytes) r v S N n s = absurd n
gives_none w (acts.TakeNote h) (acts.Took (Ok (TookNote taken))) v S N n s = note_none w v S N h taken s
gives_none w a r v S N n s = refl

pub clientless_still : (w : World) (a : Act) (r : Reply) (v : World) → Sound w → HasNoClients w → AsksNone a → Meets w a → Step w a r v → HasNoClients v
clientless_still w a r v S N n M s number x f is = elim (outcome_home w (turn w a r) v number x S (step_comes w a r v S M s) f) [
  | inl H ↦ N number H.was H.found (sym H.same ∙ is)
  | inr new ↦
      let at_home : With x.state.owner ≡ With owners.Client = new ∙ ap home_stop is in
      let own : x.state.owner ≡ owners.Client = cc in
      let clients : IsClients (look v) number x.state = (ap (option_map state_of) f, own) in
      let none : number_out a r ≢ Some number = λ e. (let no : None ≡ Some number = sym (ap (option_map (λ header. header.number)) (gives_none w a r v S N n s)) ∙ e in cc) in
      let before = steps_come w a r v number x.state S M s clients none in
      let was = found_state number w x.state before.0 in
      N number was.0 was.1 (ap (λ y. y.home) was.2 ∙ is)
]
