-- A component's work goes out of a graph, with its part.
use Rattle.std.proofs.Common.{◌≡◌, ◌≢◌, inl, inr, ℕ, ◌+◌, Bool, true, List, [], ◌∷◌, set, find, Option, Some, None, is_some, MatchOption, option_map, option_and_then, slice_get, Ok, Result, refl, sym, ◌∙◌, ap, subst, length-set}
use Rattle.std.proofs.lemmas.Bool.Decides.{eqb_tells}
use Rattle.omx_types.specs.declared.handle.Handle.{Handle}
use Rattle.omx_types.specs.declared.error.OmxError.{OmxError}
use Rattle.part_api.specs.Terms.{Terms, Writing}
use Rattle.part_forms.specs.Sinking.{reformatted}
use Rattle.il_machine.specs.declared.answer.Progress.{Progress}
use Rattle.il_machine.specs.declared.port.PortSetting.{PortSetting}
use Rattle.il_machine.specs.World.{Component, Stream, Work, World, number_of, place_of, place_numbered, is_stream_of}
use Rattle.il_machine.specs.Headers.{seen}
use Rattle.il_machine.specs.Look.{Look, look}
use Rattle.il_machine.specs.Answers.{plain, component_named}
use Rattle.il_machine.specs.Due.{first_due, ClosesTo}
use Rattle.il_machine.specs.Parts.{factors_by, terms_of}
use Rattle.il_machine.specs.Claims.{CarriedHeader, Claim, Claimed, ClaimedWork, Claims, WorkSeen, carried, claim_idle, must_announce, with_work, work_of}
use Rattle.il_machine.specs.Acts as acts
use Rattle.il_machine.specs.Run.{Step}
use Rattle.il_machine.specs.Whole.{PartSeen, HasDone, HasParts, IsWriting, Stands, Steps}
use Rattle.stock_laws.specs.Bare.{AlwaysBare, StandsBare, StepsBare}
use Rattle.stock_laws.proofs.Answering.{resolved, then_closes}
use Rattle.stock_laws.proofs.Lists.{map_set, get_set_same, get_set_other}
use Rattle.stock_laws.proofs.Works.{parts_claimed}
use Rattle.machine_laws.proofs.Granting.{placed_there}
use Rattle.machine_laws.proofs.Pairs.{apart_numbers}
use Rattle.header_core.specs.BufferHeader.{BufferHeader}
use Rattle.graph_core.specs.Claiming.{carried_from as core_carried}
use Rattle.il_component.specs.Entries.{Entry, component_of}
use Rattle.graph_core.specs.Clients.{KeepsAllClients}
use Rattle.graph_core.specs.Entries.{Entries, component_at, components_of, entry_named, look_of}
use Rattle.graph_core.specs.Entries as core
use Rattle.audio_parts.specs.declared.any_part.AnyPart.{AnyPart}
use Rattle.audio_parts.specs.declared.part_file.PartFile.{PartFile}
use Rattle.audio_parts.specs.Shown.{ShownPart}
use Rattle.il_flow.specs.Places.{carried_from}
use Rattle.il_flow.specs.Works.{WorkOf}
use Rattle.port_rules.specs.Claiming.{claimed_by}
use Rattle.port_rules.specs.declared.claiming.NoWork.{NoWork}
use Rattle.port_rules.specs.declared.claiming.NoWork.TheVariants as answers
use Rattle.il_graph.specs.declared.claimed.Claimed.{Claimed as Answer}
use Rattle.il_graph.specs.Claiming.{IsSoFar, OnWork, answer_of, told_by}
use Rattle.il_graph.specs.Preparing.{prepared, with_formats, with_port_format}
use Rattle.il_graph.specs.Shown.{Shown, IsWhole, IsPartOf, ArePartsOf, KeepsFiles, seen_parts, file_at, file_of, kept, seen_of}
use Rattle.il_graph.proofs.Back.{number_named}
use Rattle.il_graph.proofs.Calling.{Found, at_some}
use Rattle.il_graph.proofs.Looking.{named_is}
use Rattle.il_graph.proofs.PartsStay.{LeavesParts, PartOf, PartsStay, part_of, after_effect, has_parts_stay, stayed}
use Rattle.il_graph.proofs.Whole.{places_alike, bare, whole, sound_in, changed_alike, changed_is_whole}
use Rattle.il_graph.proofs.Places.{told_set}
use Rattle.il_graph.proofs.Leaving.{at_named_is}
use Rattle.il_graph.proofs.Filing.{placed_set, number_placed}
use Rattle.il_graph.proofs.Prepared.{OnlyFactors, OnlyFormats, only_factors, only_formats}

-- ---- the call

-- the headers as both crates see them
same_carried : (port : ℕ) (places : List (Option BufferHeader)) → core_carried port places ≡ carried_from port places
same_carried port [] = refl
same_carried port (None ∷ places) = same_carried (port + 1) places
same_carried port (Some h ∷ places) = ap (λ (xs : List CarriedHeader). record { port = port; header = h.held } ∷ xs) (same_carried (port + 1) places)

-- the work as its holder sees it
abbrev pub lent_work : Component → List (Option BufferHeader) → WorkSeen
lent_work c places = record { component = number_of c; terms = terms_of c; headers = carried_from 0 places; announces = must_announce c }

module _ {C : Type 0} (progress : C → Progress) (g : Entries C) (h : Handle) (i : ℕ) (F : Found progress g h i) where
  -- nothing keeps it
  pub may_go : MatchOption (component_at i g) ⊥ (λ c. None ≡ claim_idle (look_of g) c) → claim_idle (look_of g) F.component ≡ None
  may_go m = sym (at_some (λ c. None ≡ claim_idle (look_of g) c) (component_at i g) F.component F.at m)

  -- what keeps a work from going out
  pub no_work : (idle : Claimed) → MatchOption (component_at i g) ⊥ (λ c. Some idle ≡ claim_idle (look_of g) c)
      → StepsBare (core.kept progress g) (core.kept progress g) (λ w v. Claim w h (Ok idle) v)
  no_work idle m =
      let r = at_some (λ c. Some idle ≡ claim_idle (look_of g) c) (component_at i g) F.component F.at m in
      resolved plain (core.kept progress g) (core.kept progress g) h i F.component (Ok idle) (λ w v j c. Claims (claim_idle (look w) c) j c w (Ok idle) v) F.place F.at
      (λ w S. (w, S, rw (ap (λ (l : Look). claim_idle l F.component) S.looks ∙ sym r) (refl, refl)))

  -- a work goes out
  pub claimed_at : (m k : Entries C) (places : List (Option BufferHeader)) → MatchOption (component_at i g) ⊥ (λ c. None ≡ claim_idle (look_of g) c)
      → MatchOption (component_at i g) ⊥ (λ c. StepsBare (core.kept progress g) (core.kept progress m) (λ w v. v ≡ with_work i c (work_of (seen w.headers) c) w))
      → MatchOption (component_at i g) ⊥ (λ c. AlwaysBare (core.kept progress g) (λ w. carried w.headers (work_of (seen w.headers) c).headers ≡ core_carried 0 places))
      → StepsBare (core.kept progress m) (core.kept progress k) ClosesTo
      → StepsBare (core.kept progress g) (core.kept progress k) (λ w v. Claim w h (Ok (ClaimedWork (lent_work F.component places))) v)
  claimed_at m k places r s carries closes =
      let c = F.component in
      let a = at_some (λ c. None ≡ claim_idle (look_of g) c) (component_at i g) c F.at r in
      let t = at_some (λ c. StepsBare (core.kept progress g) (core.kept progress m) (λ w v. v ≡ with_work i c (work_of (seen w.headers) c) w)) (component_at i g) c F.at s in
      let b = at_some (λ c. AlwaysBare (core.kept progress g) (λ w. carried w.headers (work_of (seen w.headers) c).headers ≡ core_carried 0 places)) (component_at i g) c F.at carries in
      let z = then_closes (core.kept progress g) (core.kept progress m) (core.kept progress k) (λ w. with_work i c (work_of (seen w.headers) c) w) t closes in
      resolved plain (core.kept progress g) (core.kept progress k) h i c (Ok (ClaimedWork (lent_work c places))) (λ w v j d. Claims (claim_idle (look w) d) j d w (Ok (ClaimedWork (lent_work c places))) v) F.place F.at
      (λ w S.
      let y = z w S in
      let e : carried_from 0 places ≡ carried w.headers (work_of (seen w.headers) c).headers = sym (b w S ∙ same_carried 0 places) in
      let say : List CarriedHeader → Result Claimed OmxError = λ xs. Ok (ClaimedWork (record { component = number_of c; terms = terms_of c; headers = xs; announces = must_announce c })) in
      (y.0, y.1, rw (ap (λ (l : Look). claim_idle l c) S.looks ∙ sym a) (ap say e, y.2)))

-- an answer without a work
pub no_claim : (h : Handle) (idle : NoWork) → LeavesParts (acts.Claim h) (acts.Claimed (Ok (claimed_by idle)))
no_claim h answers.Busy = tt
no_claim h answers.NotRunning = tt
no_claim h answers.Ended = tt
no_claim h (answers.Held port) = tt
no_claim h (answers.NoData port) = tt
no_claim h (answers.NoRoom port) = tt
no_claim h (answers.Events room need) = tt

module _ {S K : Type 0} {s : _} {k : _} (x : Answer S K s k) where
  pub told_so : (t : Terms) (idle : NoWork) → x ≡ answer_of idle → told_by t x ≡ claimed_by idle
  told_so t answers.Busy e = rw e refl
  told_so t answers.NotRunning e = rw e refl
  told_so t answers.Ended e = rw e refl
  told_so t (answers.Held port) e = rw e refl
  told_so t (answers.NoData port) e = rw e refl
  told_so t (answers.NoRoom port) e = rw e refl
  told_so t (answers.Events room need) e = rw e refl

  -- it gives no work
  pub gives_none : (E : Type 0) (P : WorkOf (AnyPart S K s k) → Type 0) (idle : NoWork) → x ≡ answer_of idle → OnWork {E = E} (Ok x) P
  gives_none E P answers.Busy e = rw e tt
  gives_none E P answers.NotRunning e = rw e tt
  gives_none E P answers.Ended e = rw e tt
  gives_none E P (answers.Held port) e = rw e tt
  gives_none E P (answers.NoData port) e = rw e tt
  gives_none E P (answers.NoRoom port) e = rw e tt
  gives_none E P (answers.Events room need) e = rw e tt

-- ---- so much has gone through the part

again_writing : (t : Terms) (s : Stream) (f : _) (o : Option Writing) → MatchOption o ⊥ (IsWriting t s) → MatchOption (reformatted f o) ⊥ (IsWriting t s)
again_writing t s f None m = m
again_writing t s f (Some w) m = (m.0, m.1, m.2, refl)

module _ {A B : Type 0} where
  formats_writing : (t : Terms) (s : Stream) (port : ℕ) (ss : List PortSetting) (q : ShownPart A B) → MatchOption q.writing ⊥ (IsWriting t s) → MatchOption (with_formats port ss q).writing ⊥ (IsWriting t s)
  formats_writing t s port [] q m = m
  formats_writing t s port (x ∷ ss) q m = formats_writing t s (port + 1) ss (with_port_format port x.definition.format q) (again_writing t s x.definition.format q.writing m)

  -- that all is set of it changes nothing of it
  pub prepared_done : (c : Component) (q : ShownPart A B) (t : Terms) (f : Bool) (s : Stream) → HasDone t f s (seen_of q) → HasDone t f s (seen_of (prepared c q))
  prepared_done c q t f s D =
      let O : OnlyFormats q (with_formats 0 c.settings.ports q) = only_formats 0 c.settings.ports q in
      let P : OnlyFactors (with_formats 0 c.settings.ports q) (prepared c q) = only_factors 0 (factors_by c.settings.kind c.settings.gain c.settings.weights) (with_formats 0 c.settings.ports q) in
      record {
        left = λ a. (P.left ∙ O.left) ∙ D.left a;
        rest = λ a b. (P.rest ∙ O.rest) ∙ D.rest a b;
        kept = λ n a. (P.kept ∙ O.kept) ∙ D.kept n a;
        writing = λ n a b. subst (λ (o : Option Writing). MatchOption o ⊥ (IsWriting t s)) (sym P.writing) (formats_writing t s 0 c.settings.ports q (D.writing n a b));
      }

-- ---- the graph without the part

still_there : {A B D : Type 0} (f : A → B) (q : A → D) (o p : Option A) (b : B) → option_map f o ≡ Some b → option_map q p ≡ option_map q o → (a : A) × (p ≡ Some a)
still_there f q None p b e s = absurd cc
still_there f q (Some x) None b e s = absurd cc
still_there f q (Some x) (Some y) b e s = (y, refl)

-- what is at a place once one was set is that one, if it was at no other
set_own : {A : Type 0} (xs : List A) (i j : ℕ) (x y b : A) → slice_get xs i ≡ Some x → slice_get (set xs i y) j ≡ Some b → (j ≢ i → slice_get xs j ≡ Some b → ⊥) → b ≡ y
set_own xs i j x y b at t other =
    let own : j ≡ i → b ≡ y = λ e. let z : Some b ≡ Some y = sym t ∙ rw e (get_set_same xs i x y at) in cc in
    elim (eqb_tells j i) [ inl e ↦ own e.1 | inr e ↦ absurd (other e.1 (sym (get_set_other xs i j y e.1) ∙ t)) ]

pub placed_at : {A : Type 0} (xs : List A) (o : Option ℕ) (x : A) → option_and_then (slice_get xs) o ≡ Some x → (j : ℕ) × (o ≡ Some j) × (slice_get xs j ≡ Some x)
placed_at xs None x e = absurd cc
placed_at xs (Some j) x e = (j, refl, e)

part_gone : {S K : Type 0} (cs : List Component) (parts : List (Option (ShownPart S K))) (i : ℕ) (c d : Component) (work : Work) → slice_get cs i ≡ Some c → d.work ≡ Some work
    → (o : Option (ShownPart S K)) → slice_get parts i ≡ Some o → ArePartsOf cs parts → ArePartsOf (set cs i d) (set parts i None)
part_gone {S = S} {K = K} cs parts i c d work at out o here P = record { there = there; away = away }
  where
    there : (j : ℕ) (x : Component) → slice_get (set cs i d) j ≡ Some x → x.work ≡ None → (y : ShownPart S K) × (slice_get (set parts i None) j ≡ Some (Some y)) × IsPartOf x y
    there j x t none =
        let own : j ≡ i → (y : ShownPart S K) × (slice_get (set parts i None) j ≡ Some (Some y)) × IsPartOf x y = λ e.
        let z : Some x ≡ Some d = sym t ∙ rw e (get_set_same cs i c d at) in
        let s : x ≡ d = cc in
        let a : Some work ≡ None = sym out ∙ (ap (λ (y : Component). y.work) (sym s) ∙ none) in
        absurd cc in
        let other : j ≢ i → (y : ShownPart S K) × (slice_get (set parts i None) j ≡ Some (Some y)) × IsPartOf x y = λ e.
        let z = P.there j x (sym (get_set_other cs i j d e) ∙ t) none in
        (z.0, get_set_other parts i j None e ∙ z.1, z.2) in
        elim (eqb_tells j i) [ inl e ↦ own e.1 | inr e ↦ other e.1 ]

    away : (j : ℕ) (x : Component) → slice_get (set cs i d) j ≡ Some x → is_some x.work ≡ true → slice_get (set parts i None) j ≡ Some None
    away j x t works = elim (eqb_tells j i) [
      | inl e ↦ rw e.1 (get_set_same parts i o None here)
      | inr e ↦ get_set_other parts i j None e.1 ∙ P.away j x (sym (get_set_other cs i j d e.1) ∙ t) works
    ]

-- the work of the component c, at the place, has gone out with its part q
pub record HasGone {S K C : Type 0} (progress : C → Progress) (g : Shown S K C) (k : Entries C) (h : Handle) (i : ℕ) (c : Component) (x : WorkSeen) (q : ShownPart S K) : Type 0 where
  -- each world goes on to one, with what is so of its streams
  pub step : (t : Terms) (p : PartSeen) → ((w : World) → Stands (kept progress g) w → IsSoFar t w (number_of c) p)
      → Steps (kept progress g) (kept progress (record { core = k; parts = set g.parts i None })) (λ w v. Step w (acts.Claim h) (acts.Claimed (Ok (ClaimedWork x))) v × IsSoFar t v (number_of c) p)
  pub whole : first_due (look_of k) ≡ None → IsWhole progress (record { core = k; parts = set g.parts i None })
  -- the component that the handle names has its work out, and its part is tied to it as before
  pub named : KeepsAllClients g.core k → (d : Component) × (component_named h (components_of k.entries) ≡ Some d) × (part_of d ≡ part_of (record c { work = Some (work_of (look_of g.core).headers c) }))
  -- the file that went along, and those of the others
  pub own : file_of h.generation (record { core = k; parts = set g.parts i None }) ≡ None
  pub file : file_of h.generation g ≡ q.file
  pub others : KeepsFiles h.generation g (record { core = k; parts = set g.parts i None })

module _ {S K C : Type 0} (progress : C → Progress) (g : Shown S K C) (k : Entries C) (h : Handle) (i : ℕ) (c : Component) (x : WorkSeen) (I : IsWhole progress g)
    (place : place_of h (components_of g.core.entries) ≡ Some i) (at : slice_get (components_of g.core.entries) i ≡ Some c)
    (T : StepsBare (core.kept progress g.core) (core.kept progress k) (λ w v. Step w (acts.Claim h) (acts.Claimed (Ok (ClaimedWork x))) v)) where
  abbrev out : Component
  out = record c { work = Some (work_of (look_of g.core).headers c) }

  abbrev mid : World → World
  mid w = with_work i c (work_of (seen w.headers) c) w

  same : (w : World) → StandsBare (core.kept progress g.core) w → w.components ≡ components_of g.core.entries
  same w B = ap (λ (y : Look). y.components) B.looks

  stay : (w : World) (B : StandsBare (core.kept progress g.core) w) → PartsStay (mid w) (T w B).0
  stay w B = subst (λ (u : World). PartsStay u (T w B).0)
      (at_named_is h w (λ i c. with_work i c (work_of (seen w.headers) c) w) i c (ap (place_of h) (same w B) ∙ place) (ap (λ (xs : List Component). slice_get xs i) (same w B) ∙ at))
      (after_effect w (sound_in progress g I w B) (acts.Claim h) (acts.Claimed (Ok (ClaimedWork x))) (T w B).0 tt (T w B).2)

  there : (w : World) → StandsBare (core.kept progress g.core) w → (mid w).components ≡ set (components_of g.core.entries) i out
  there w B = ap (λ (l : Look). set l.components i (record c { work = Some (work_of l.headers c) })) B.looks

  parts : (w : World) → Stands (kept progress g) w → HasParts (seen_parts (set g.parts i None)) (mid w)
  parts w s =
      let B = bare progress g w s in
      let own : slice_get w.components i ≡ Some c = ap (λ (xs : List Component). slice_get xs i) (same w B) ∙ at in
      subst (λ (ps : List (Option PartSeen)). HasParts ps (mid w)) (sym (map_set (option_map seen_of) g.parts i None))
      (parts_claimed (seen_parts g.parts) w i c (work_of (seen w.headers) c) own s.parts)

  -- each world goes on to one, with what is so of its streams
  gone_whole : (t : Terms) (p : PartSeen) → ((w : World) → Stands (kept progress g) w → IsSoFar t w (number_of c) p)
      → Steps (kept progress g) (kept progress (record { core = k; parts = set g.parts i None })) (λ w v. Step w (acts.Claim h) (acts.Claimed (Ok (ClaimedWork x))) v × IsSoFar t v (number_of c) p)
  gone_whole t p far w s =
      let B = bare progress g w s in
      let y = T w B in
      let K = stay w B in (
        y.0,
        whole progress (record { core = k; parts = set g.parts i None }) y.0 y.1 (has_parts_stay (seen_parts (set g.parts i None)) (mid w) y.0 K (parts w s)),
        (y.2, λ z e. far w s z (ap (λ (ss : List Stream). find (is_stream_of (number_of c)) ss) (sym K.streams) ∙ e)),
      )

  gone_is_whole : (o : Option (ShownPart S K)) → slice_get g.parts i ≡ Some o → first_due (look_of k) ≡ None → IsWhole progress (record { core = k; parts = set g.parts i None })
  gone_is_whole o here closed = changed_is_whole progress g k (acts.Claim h) (acts.Claimed (Ok (ClaimedWork x))) I (λ w B. tt) T mid (set (components_of g.core.entries) i out) (set g.parts i None) stay there parts
      closed (length-set g.parts i None ∙ (I.count ∙ sym (length-set (components_of g.core.entries) i out)))
      (part_gone (components_of g.core.entries) g.parts i c out (work_of (look_of g.core).headers c) at refl o here I.parts)

  -- the numbers stand where they stood
  numbers : (n : ℕ) → place_numbered n (components_of k.entries) ≡ place_numbered n (components_of g.core.entries)
  numbers n =
      let alike = changed_alike progress g k (acts.Claim h) (acts.Claimed (Ok (ClaimedWork x))) I (λ w B. tt) T mid (set (components_of g.core.entries) i out) (set g.parts i None) stay there parts in
      places_alike n (components_of k.entries) (set (components_of g.core.entries) i out) alike ∙ placed_set n (components_of g.core.entries) i c out at refl

  -- the component that the handle names has its work out, and its part is tied to it as before
  gone_named : KeepsAllClients g.core k → (d : Component) × (component_named h (components_of k.entries) ≡ Some d) × (part_of d ≡ part_of out)
  gone_named clients =
      let before : option_map component_of (entry_named h g.core) ≡ Some c = sym (named_is progress g.core h) ∙ (ap (option_and_then (slice_get (components_of g.core.entries))) place ∙ at) in
      let e = still_there component_of (λ (x : Entry C). x.queues.client) (entry_named h g.core) (entry_named h k) c before (clients h) in
      let d : Component = component_of e.0 in
      let named : component_named h (components_of k.entries) ≡ Some d = named_is progress k h ∙ ap (option_map component_of) e.1 in
      let j = placed_at (components_of k.entries) (place_of h (components_of k.entries)) d named in
      let alike = changed_alike progress g k (acts.Claim h) (acts.Claimed (Ok (ClaimedWork x))) I (λ w B. tt) T mid (set (components_of g.core.entries) i out) (set g.parts i None) stay there parts in
      let b = stayed (set (components_of g.core.entries) i out) (components_of k.entries) j.0 d alike j.2 in
      let w = I.worlds.world in
      let B = bare progress g w I.worlds.stands in
      let in_world : (n : ℕ) (y : Component) → slice_get (components_of g.core.entries) n ≡ Some y → slice_get w.components n ≡ Some y = λ n y t. ap (λ (xs : List Component). slice_get xs n) (same w B) ∙ t in
      let n : number_of b.0 ≡ number_of c = ap (λ (p : PartOf). p.number) b.2 ∙ (number_named h (components_of k.entries) j.0 d j.1 j.2 ∙ sym (number_named h (components_of g.core.entries) i c place at)) in
      let r : b.0 ≡ out = set_own (components_of g.core.entries) i j.0 c out b.0 at b.1 (λ q t. apart_numbers w.numbered j.0 i w.components b.0 c I.worlds.sound.rising (in_world j.0 b.0 t) (in_world i c at) q n) in
      (d, named, sym b.2 ∙ ap part_of r)

  placed : number_of c ≡ h.generation → place_numbered h.generation (components_of g.core.entries) ≡ Some i
  placed own =
      let w = I.worlds.world in
      let B = bare progress g w I.worlds.stands in
      let t : slice_get w.components i ≡ Some c = ap (λ (xs : List Component). slice_get xs i) (same w B) ∙ at in
      ap (λ (n : ℕ). place_numbered n (components_of g.core.entries)) (sym own)
      ∙ (ap (place_numbered (number_of c)) (sym (same w B)) ∙ placed_there w.numbered i w.components c I.worlds.sound.rising t)

  gone_own : number_of c ≡ h.generation → (q : Option (ShownPart S K)) → slice_get g.parts i ≡ Some q → file_of h.generation (record { core = k; parts = set g.parts i None }) ≡ None
  gone_own own q here =
      ap (option_and_then (λ j. option_and_then (option_and_then (λ (x : ShownPart S K). x.file)) (slice_get (set g.parts i None) j))) (numbers h.generation ∙ placed own)
      ∙ ap (option_and_then (option_and_then (λ (x : ShownPart S K). x.file))) (get_set_same g.parts i q None here)

  -- the file that went along
  gone_file : number_of c ≡ h.generation → (q : ShownPart S K) → slice_get g.parts i ≡ Some (Some q) → file_of h.generation g ≡ q.file
  gone_file own q here = ap (option_and_then (file_at g)) (placed own) ∙ ap (option_and_then (option_and_then (λ (y : ShownPart S K). y.file))) here

  gone_others : number_of c ≡ h.generation → KeepsFiles h.generation g (record { core = k; parts = set g.parts i None })
  gone_others own n apart =
      let f : Option (ShownPart S K) → Option (PartFile S K) = option_and_then (λ (x : ShownPart S K). x.file) in
      ap (option_and_then (λ j. option_and_then f (slice_get (set g.parts i None) j))) (numbers n)
      ∙ told_set f g.parts i None (place_numbered n (components_of g.core.entries)) (λ e. apart (sym (number_placed n (components_of g.core.entries) i c e at) ∙ own))

  pub has_gone : number_of c ≡ h.generation → (q : ShownPart S K) → slice_get g.parts i ≡ Some (Some q) → HasGone progress g k h i c x q
  has_gone own q here = record { step = gone_whole; whole = gone_is_whole (Some q) here; named = gone_named; own = gone_own own (Some q) here; file = gone_file own q here; others = gone_others own }
