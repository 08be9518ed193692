-- What a work that goes out of a graph is given: a part on which all is set, and headers of its ports.
use Rattle.std.proofs.Common.{◌≡◌, ℕ, Bool, true, false, List, [], map, Option, Some, None, option_map, option_and_then, slice_get, refl, sym, ◌∙◌, ap, subst}
use Rattle.std.proofs.lemmas.Option.{slice_get-map}
use Rattle.omx_types.specs.declared.handle.Handle.{Handle}
use Rattle.part_api.specs.Terms.{Terms, Writing}
use Rattle.il_machine.specs.declared.answer.Progress.{Progress}
use Rattle.il_machine.specs.World.{Component, Stream, Work, World, number_of, place_of, ports_of, stream_of}
use Rattle.il_machine.specs.Answers.{component_named}
use Rattle.il_machine.specs.Look.{Look}
use Rattle.il_machine.specs.Parts.{factors_by, terms_of}
use Rattle.il_machine.specs.Claims.{claim_idle, must_announce}
use Rattle.il_machine.specs.Sound.{IsSound}
use Rattle.il_machine.specs.Stock.{Stocked}
use Rattle.il_machine.specs.Whole.{HasDone, Stands}
use Rattle.header_core.specs.BufferHeader.{BufferHeader}
use Rattle.graph_core.specs.Claiming.{AreFronts, HasFronts, gives_to}
use Rattle.graph_core.specs.Entries.{components_of}
use Rattle.audio_parts.specs.Kinds.{MayHave, with_factor, with_format}
use Rattle.audio_parts.specs.Ready.{IsReady}
use Rattle.audio_parts.specs.Shapes.{IsLawful}
use Rattle.audio_parts.specs.Shown.{ShownPart}
use Rattle.il_flow.specs.Layouts.{ports_of as ports_by}
use Rattle.il_flow.specs.Places.{AreWithin, carried_from}
use Rattle.il_flow.specs.Sound.{HaveOutputs}
use Rattle.il_flow.specs.Steps.{shown}
use Rattle.il_graph.specs.Claiming.{AreTermsOf}
use Rattle.il_graph.specs.Finishing.{IsItsOwn}
use Rattle.il_graph.specs.Preparing.{prepared, prepared_where, with_formats}
use Rattle.il_graph.specs.Shown.{IsPartOf, Shown, kept, seen_of}
use Rattle.il_graph.proofs.Back.{or_false}
use Rattle.il_graph.proofs.Calling.{and_some}
use Rattle.il_graph.proofs.Going.{prepared_done}
use Rattle.il_graph.proofs.Lending.{lent_none, lent_outputs, lent_within}
use Rattle.il_graph.proofs.PartsStay.{PartOf, part_of}
use Rattle.il_graph.proofs.Prepared.{only_factors, only_formats}
use Rattle.il_graph.proofs.Ready.{set_lawful, set_ready, set_terms}

abbrev pub FormatLaw : Type 0
FormatLaw = (t : Terms) (port : ℕ) (format : _) → IsLawful t → MayHave t port format → IsLawful (with_format t port format)

abbrev pub FactorLaw : Type 0
FactorLaw = (t : Terms) (input factor : ℕ) → IsLawful t → IsLawful (with_factor t input factor)

-- what a work of the component is given, whose part was q: the headers, and the part p
pub record IsGiven {A B : Type 0} (c : Component) (places : List (Option BufferHeader)) (q : ShownPart A B) (announces : Bool) (p : ShownPart A B) : Type 0 where
  pub lawful : IsLawful p.terms
  pub within : AreWithin (ports_by p.terms) 0 places
  pub outputs : announces ≡ false → HaveOutputs p.terms places
  pub none : announces ≡ true → carried_from 0 places ≡ []
  pub ready : announces ≡ false → IsReady p.terms p.failed
  pub terms : announces ≡ false → p.terms ≡ terms_of c
  pub file : p.file ≡ q.file
  pub failed : p.failed ≡ c.part.failed
  -- it is that of the component as it is once its work is out
  pub own : (d : Component) (work : Work) → part_of d ≡ part_of (record c { work = Some work }) → work.announces ≡ announces → IsItsOwn d announces None p.terms p.failed
  pub done : (t : Terms) (f : Bool) (x : Stream) → HasDone t f x (seen_of q) → HasDone t f x (seen_of p)

module _ {A B : Type 0} (l : Look) (c : Component) (S : IsSound c) (ok : claim_idle l c ≡ None) (places : List (Option BufferHeader)) (s : Stocked) (same : s.headers ≡ l.headers) (F : HasFronts c places s)
    (q : ShownPart A B) (T : IsPartOf c q) (formats : FormatLaw) (factors : FactorLaw) where
  -- an announcement, or not
  lawful_by : (a : Bool) → a ≡ must_announce c → IsLawful (prepared_where a c q).terms
  lawful_by true e = T.lawful
  lawful_by false e = set_lawful l c S ok (sym e) q T formats factors

  kind_by : (a : Bool) → a ≡ must_announce c → (prepared_where a c q).terms.kind ≡ c.settings.kind
  kind_by true e = T.kind
  kind_by false e = ap (λ (t : Terms). t.kind) (set_terms l c S ok (sym e) q T)

  terms_by_case : (a : Bool) → a ≡ must_announce c → a ≡ false → (prepared_where a c q).terms ≡ terms_of c
  terms_by_case true e n = absurd cc
  terms_by_case false e n = set_terms l c S ok (sym e) q T

  file_by : (a : Bool) → (prepared_where a c q).file ≡ q.file
  file_by true = refl
  file_by false = (only_factors 0 (factors_by c.settings.kind c.settings.gain c.settings.weights) (with_formats 0 c.settings.ports q)).file ∙ (only_formats 0 c.settings.ports q).file

  failed_by : (a : Bool) → (prepared_where a c q).failed ≡ q.failed
  failed_by true = refl
  failed_by false = (only_factors 0 (factors_by c.settings.kind c.settings.gain c.settings.weights) (with_formats 0 c.settings.ports q)).failed ∙ (only_formats 0 c.settings.ports q).failed

  attached_by : (a : Bool) → a ≡ must_announce c → (prepared_where a c q).terms.file ≡ c.file
  attached_by true e = T.attached
  attached_by false e = ap (λ (t : Terms). t.file) (set_terms l c S ok (sym e) q T)

  ready_by : (a : Bool) → a ≡ must_announce c → a ≡ false → IsReady (prepared_where a c q).terms (prepared_where a c q).failed
  ready_by true e n = absurd cc
  ready_by false e n = set_ready l c S ok (sym e) q T (prepared c q).failed (failed_by false ∙ T.failed)

  done_by : (a : Bool) (t : Terms) (f : Bool) (x : Stream) → HasDone t f x (seen_of q) → HasDone t f x (seen_of (prepared_where a c q))
  done_by true t f x D = D
  done_by false t f x D = prepared_done c q t f x D

  module _ (a : Bool) (tells : a ≡ must_announce c) (p : ShownPart A B) (is : p ≡ prepared_where a c q) where
    fronts : AreFronts (number_of c) 0 (map (gives_to a c) (ports_of c)) places s
    fronts = subst (λ (b : Bool). AreFronts (number_of c) 0 (map (gives_to b c) (ports_of c)) places s) (sym tells) F

    given_lawful : IsLawful p.terms
    given_lawful = subst (λ (x : ShownPart A B). IsLawful x.terms) (sym is) (lawful_by a tells)

    given_kind : p.terms.kind ≡ c.settings.kind
    given_kind = subst (λ (x : ShownPart A B). x.terms.kind ≡ c.settings.kind) (sym is) (kind_by a tells)

    given_failed : p.failed ≡ c.part.failed
    given_failed = subst (λ (x : ShownPart A B). x.failed ≡ c.part.failed) (sym is) (failed_by a ∙ T.failed)

    given_own : (d : Component) (work : Work) → part_of d ≡ part_of (record c { work = Some work }) → work.announces ≡ a → IsItsOwn d a None p.terms p.failed
    given_own d work e n = record {
      work = and_some (λ (x : Work). x.announces ≡ a) d.work work (ap (λ (x : PartOf). x.work) e) n;
      kind = given_kind ∙ sym (ap (λ (x : PartOf). x.kind) e);
      its_file = subst (λ (x : ShownPart A B). x.terms.file ≡ c.file) (sym is) (attached_by a tells) ∙ sym (ap (λ (x : PartOf). x.file) e);
      so_failed = given_failed ∙ (sym (ap (λ (x : PartOf). x.failed) e) ∙ sym (or_false d.part.failed));
    }

    pub given : IsGiven c places q a p
    given = record {
      lawful = given_lawful;
      within = lent_within l c S ok places s same p.terms given_kind given_lawful a tells fronts;
      outputs = λ e. lent_outputs l c S ok places s same p.terms given_kind given_lawful a tells fronts e;
      none = λ e. lent_none l c S ok places s same p.terms given_kind given_lawful a tells fronts e;
      ready = λ e. subst (λ (x : ShownPart A B). IsReady x.terms x.failed) (sym is) (ready_by a tells e);
      terms = λ e. subst (λ (x : ShownPart A B). x.terms ≡ terms_of c) (sym is) (terms_by_case a tells e);
      file = subst (λ (x : ShownPart A B). x.file ≡ q.file) (sym is) (file_by a);
      failed = given_failed;
      own = given_own;
      done = λ t f x D. subst (λ (y : ShownPart A B). HasDone t f x (seen_of y)) (sym is) (done_by a t f x D);
    }

-- so much has gone through the part before
pub was_so_far : {S K C : Type 0} (progress : C → Progress) (g : Shown S K C) (i : ℕ) (c : Component) (q : ShownPart S K) → slice_get (components_of g.core.entries) i ≡ Some c → c.work ≡ None → c.part.failed ≡ false → slice_get g.parts i ≡ Some (Some q)
    → (w : World) → Stands (kept progress g) w → (x : Stream) → stream_of (number_of c) w ≡ Some x → HasDone (terms_of c) false x (seen_of q)
was_so_far progress g i c q at free whole here w s x st =
    let own : slice_get w.components i ≡ Some c = ap (λ (l : Look). slice_get l.components i) s.looks ∙ at in
    let y = s.parts i c x own free st in
    let e : Some (Some (seen_of q)) ≡ Some (Some y.0) = sym (slice_get-map (option_map seen_of) g.parts i ∙ ap (option_map (option_map seen_of)) here) ∙ y.1 in
    let z : y.0 ≡ seen_of q = cc in
    let D : HasDone (terms_of c) c.part.failed x (seen_of q) = subst (HasDone (terms_of c) c.part.failed x) z y.2 in
    subst (λ (b : Bool). HasDone (terms_of c) b x (seen_of q)) whole D

-- the terms of the component that the handle names
pub terms_named : (h : Handle) (l : Look) (c : Component) (i : ℕ) (t : Terms) → place_of h l.components ≡ Some i → slice_get l.components i ≡ Some c → AreTermsOf h l t → t ≡ terms_of c
terms_named h l c i t p at A =
    let e : component_named h l.components ≡ Some c = ap (option_and_then (slice_get l.components)) p ∙ at in
    rw e at A

-- as its members tell it
pub shown_done : {A B : Type 0} (t : Terms) (f : Bool) (x : Stream) (q : ShownPart A B) (left : Option ℕ) (rest kept : Option (List ℕ)) (writing : Option Writing) → q.left ≡ left → q.rest ≡ rest → q.kept ≡ kept → q.writing ≡ writing
    → HasDone t f x (seen_of q) → HasDone t f x (shown left rest kept writing)
shown_done t f x q left rest kept writing a b d e D =
    let same : seen_of q ≡ shown left rest kept writing = λ i. record { left = a i; rest = b i; kept = d i; writing = e i } in
    subst (HasDone t f x) same D
