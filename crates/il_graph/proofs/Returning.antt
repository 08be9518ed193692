-- A work that is out as its holder sees it may be brought back from its step.
use Rattle.std.proofs.Common.{◌≡◌, ℕ, ◌+◌, Bool, true, false, ◌||◌, List, [], ◌∷◌, Option, Some, None, IsSomeAnd, MatchOption, All, option_map, option_and_then, slice_get, Ok, refl, sym, ◌∙◌, ap, subst}
use Rattle.std.specs.Prelude.{is_some, IfSome}
use Rattle.std.proofs.lemmas.List.Elements.{All-head, All-tail}
use Rattle.omx_types.specs.declared.fault.PartFault.{PartFault}
use Rattle.omx_types.specs.declared.handle.Handle.{Handle}
use Rattle.omx_types.specs.declared.kind.Kind.TheVariants as kinds
use Rattle.part_api.specs.Terms.{Terms}
use Rattle.il_machine.specs.declared.header.HeaderState.{HeaderState}
use Rattle.il_machine.specs.declared.header.Owner.TheVariants as owners
use Rattle.il_machine.specs.Answers.{component_named}
use Rattle.il_machine.specs.Claims.{CarriedHeader, Claim, ClaimedWork, WorkSeen}
use Rattle.il_machine.specs.Finishing.{gone_through}
use Rattle.il_machine.specs.Headers.{find_header}
use Rattle.il_machine.specs.Look.{Look, look}
use Rattle.il_machine.specs.Parts.{terms_of}
use Rattle.il_machine.specs.Sound.{Sound}
use Rattle.il_machine.specs.Stepping.{WorkDone, IsAnnounced, IsStep}
use Rattle.il_machine.specs.Whole.{HasDone, IsBack, PartSeen}
use Rattle.il_machine.specs.World.{Component, HeaderRecord, Stream, Work, World, component_numbered, place_of, stream_of}
use Rattle.machine_laws.proofs.Finding.{either}
use Rattle.machine_laws.proofs.Granting.{placed_there}
use Rattle.machine_laws.proofs.Keys.{is_there}
use Rattle.history_laws.specs.Works.{HeaderStays, IsHeldOut}
use Rattle.history_laws.proofs.HeldOut.{claims_held, held_meets, held_tells}
use Rattle.stock_laws.proofs.Parts.{done_alike}
use Rattle.stock_laws.proofs.Works.{through_nothing}
use Rattle.header_core.specs.BufferHeader.{BufferHeader}
use Rattle.port_stock.specs.Conditions.{IsHeaderOf}
use Rattle.graph_core.specs.Claiming.{AreLent}
use Rattle.graph_core.specs.Finishing.{AreHandedBack}
use Rattle.il_flow.specs.Places.{AreHeadersOf, AreSame, carried_from}
use Rattle.il_flow.specs.Works.{ComesBack, DoneOf, WorkOf, seen_done, seen_work}
use Rattle.il_flow.proofs.Sameness.{known_same}
use Rattle.il_graph.specs.Claiming.{AreTermsOf, IsSoFar}
use Rattle.il_graph.specs.Finishing.{IsItsOwn, Returns}
use Rattle.il_graph.proofs.Back.{number_named, or_false}
use Rattle.il_graph.proofs.Calling.{and_some}
use Rattle.il_graph.proofs.Going.{placed_at}

module _ (w : World) (x : WorkSeen) (s : Stream) (H : IsHeldOut w x s) where
  module _ (done : WorkDone) (p : PartSeen) (own : done.component ≡ x.component) where
    is_back : HasDone x.terms (is_some done.fault) (gone_through done s) p → IsBack w done p
    is_back D =
        let c = H.component in
        is_there (component_numbered done.component w) _ c (ap (λ (n : ℕ). component_numbered n w) own ∙ H.there)
        (is_there (stream_of done.component w) _ s (ap (λ (n : ℕ). stream_of n w) own ∙ H.stream)
        (done_alike x.terms (terms_of c) (is_some done.fault) (is_some done.fault) (gone_through done s) p H.kind H.file refl D))

    pub returns_stepped : x.announces ≡ false → IsStep x.terms s x.headers done → HasDone x.terms (is_some done.fault) (gone_through done s) p → Returns w done p
    returns_stepped steps is D = (held_meets w x s done H own steps is, is_back D)

    pub returns_told : x.announces ≡ true → IsAnnounced done → HasDone x.terms false s p → Returns w done p
    returns_told tells A D =
        let none : is_some done.fault ≡ false = ap is_some A.1 in
        let still : gone_through done s ≡ s = through_nothing done s A.0 A.3 in
        (held_tells w x s done H own tells A, is_back (subst (λ (b : Bool). HasDone x.terms b (gone_through done s) p) (sym none) (subst (λ (y : Stream). HasDone x.terms false y p) (sym still) D)))

  -- the component that the handle names is the work's own, and the part that comes back with its kind and its file is that component's
  pub own_held : Sound w → (h : Handle) (c : Component) → component_named h w.components ≡ Some c → h.generation ≡ x.component
      → (announces : Bool) (fault : Option PartFault) (t : Terms) (failed : Bool) → x.announces ≡ announces → t.kind ≡ (x.terms).kind → t.file ≡ (x.terms).file → failed ≡ is_some fault → IsItsOwn c announces fault t failed
  own_held S h c named n announces fault t failed a k f b =
      let j = placed_at w.components (place_of h w.components) c named in
      let number = number_named h w.components j.0 c j.1 j.2 in
      let e : component_numbered x.component w ≡ Some c = ap (λ (m : ℕ). component_numbered m w) (sym n ∙ sym number) ∙ (ap (option_and_then (slice_get w.components)) (placed_there w.numbered j.0 w.components c S.rising j.2) ∙ j.2) in
      let z : Some H.component ≡ Some c = sym H.there ∙ e in
      let q : H.component ≡ c = cc in
      record {
        work = and_some (λ (y : Work). y.announces ≡ announces) c.work H.work (ap (λ (y : Component). y.work) (sym q) ∙ H.out) (H.announces ∙ a);
        kind = k ∙ (sym H.kind ∙ ap (λ (y : Component). y.settings.kind) q);
        its_file = f ∙ (sym H.file ∙ ap (λ (y : Component). y.file) q);
        so_failed = b ∙ sym (ap (λ (y : Bool). y || is_some fault) (ap (λ (y : Component). y.part.failed) (sym q) ∙ H.failed));
      }

-- a work that is its component's own is so once its step was done
pub own_stepped : (c : Component) (announces told : Bool) (fault : Option PartFault) (t u : Terms) (failed now : Bool) → IsItsOwn c announces None t failed → failed ≡ false → told ≡ announces → u ≡ t → now ≡ is_some fault → IsItsOwn c told fault u now
own_stepped c announces told fault t u failed now O whole a e b =
    let unfailed : c.part.failed ≡ false = sym (or_false c.part.failed) ∙ (sym O.so_failed ∙ whole) in
    record {
      work = subst (λ (y : Bool). IsSomeAnd c.work (λ work. work.announces ≡ y)) (sym a) O.work;
      kind = ap (λ (y : Terms). y.kind) e ∙ O.kind;
      its_file = ap (λ (y : Terms). y.file) e ∙ O.its_file;
      so_failed = b ∙ sym (ap (λ (y : Bool). y || is_some fault) unfailed);
    }

-- what is set of the component that the handle names; where it names none, any will do
abbrev terms_by : Option Component → Terms
terms_by None = record { kind = kinds.Gain; inputs = []; outputs = []; factors = []; file = None }
terms_by (Some c) = terms_of c

terms_are : (o : Option Component) → IfSome o (λ c. terms_by o ≡ terms_of c)
terms_are None = tt
terms_are (Some c) = refl

abbrev pub terms_at : Handle → Look → Terms
terms_at h l = terms_by (component_named h l.components)

pub are_terms_at : (h : Handle) (l : Look) → AreTermsOf h l (terms_at h l)
are_terms_at h l = terms_are (component_named h l.components)

-- ---- the work that a claim gave, once its step was done

module _ {P : Type 0} (w v : World) (h : Handle) (t set_to : Terms) (work : WorkOf P) (done : DoneOf P) (old new : PartSeen) (S : Sound w) (goes : Claim w h (Ok (ClaimedWork (seen_work t work))) v)
    (far : IsSoFar t v work.component.generation old) (same : done.component ≡ work.component) (set_so : work.announces ≡ false → set_to ≡ t)
    (step : work.announces ≡ false → ComesBack set_to (carried_from 0 work.headers) old done.component.generation done.frames done.fault (carried_from 0 done.headers) new)
    (told : work.announces ≡ true → IsAnnounced (seen_done [] done)) (still : work.announces ≡ true → new ≡ old) where
  -- by the bytes that its part's file took, it may be brought back in the world that the claim left
  pub may_return : (took : List ℕ) × Returns v (seen_done took done) new
  may_return =
      let C = claims_held w h (seen_work t work) v S goes in
      let s = C.0 in
      let H = C.2 in
      let own : done.component.generation ≡ work.component.generation = ap (λ (k : Handle). k.generation) same in
      let gone : HasDone t false s old = far s H.stream in
      either work.announces
      (λ a. ([], returns_told v (seen_work t work) s H (seen_done [] done) new own a (told a) (subst (HasDone t false s) (sym (still a)) gone)))
      (λ n.
      let y = subst (λ (u : Terms). ComesBack u (carried_from 0 work.headers) old done.component.generation done.frames done.fault (carried_from 0 done.headers) new) (set_so n) (step n) s gone in
      (y.0, returns_stepped v (seen_work t work) s H (seen_done y.0 done) new own n y.1 y.2))

-- ---- its headers

known_lent : (component : ℕ) (h : BufferHeader) (o : Option HeaderState) → MatchOption o ⊥ (λ s. (s.owner ≡ owners.Work component) × IsHeaderOf s h) → MatchOption o ⊥ (λ s. IsHeaderOf s h)
known_lent component h None m = absurd m
known_lent component h (Some s) m = m.1

lent_known : (component port : ℕ) (places : List (Option BufferHeader)) (l : Look) → AreLent component places l → AreHeadersOf l.key l.headers.header port places
lent_known component port [] l A = tt
lent_known component port (None ∷ places) l A = (tt, lent_known component (port + 1) places l A.1)
lent_known component port (Some h ∷ places) l A = (((A.0).0, known_lent component h (l.headers.header h.held.number) (A.0).1), lent_known component (port + 1) places l A.1)

-- those that went out may come back as the same ones
pub handed_back : (component : ℕ) (before after : List (Option BufferHeader)) (l : Look) → AreLent component before l → AreSame before after → AreHandedBack after l
handed_back component before after l A same = known_same l.key l.headers.header 0 before after same (lent_known component 0 before l A)

-- headers that stay as they are known stay those of a work
of_record : (o p : Option HeaderRecord) (P : HeaderState → Type 0) → p ≡ o → MatchOption (option_map (λ (r : HeaderRecord). r.state) o) ⊥ P → MatchOption (option_map (λ (r : HeaderRecord). r.state) p) ⊥ P
of_record o p P e h = rw e h

pub still_known : (w v : World) (port : ℕ) (headers : List (Option BufferHeader)) → v.key ≡ w.key → All (HeaderStays w.headers v.headers) (carried_from port headers) → AreHeadersOf w.key (look w).headers.header port headers
    → AreHeadersOf v.key (look v).headers.header port headers
still_known w v port [] k A E = tt
still_known w v port (None ∷ headers) k A E = (tt, still_known w v (port + 1) headers k A E.1)
still_known w v port (Some h ∷ headers) k A E =
    let x : CarriedHeader = record { port = port; header = h.held } in
    let rest = carried_from (port + 1) headers in
    let P = HeaderStays w.headers v.headers in
    let known = of_record (find_header h.held.number w.headers) (find_header h.held.number v.headers) (λ s. IsHeaderOf s h) (All-head P x rest A) (E.0).1 in
    (((E.0).0 ∙ sym k, known), still_known w v (port + 1) headers k (All-tail P x rest A) E.1)
