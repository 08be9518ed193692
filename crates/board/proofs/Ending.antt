-- Where no pass holds anything, nothing is out of the graph that wasn't at first.
use Rattle.std.proofs.Common.{◌≡◌, ℕ, ◌≤◌, ◌<◌, ◌∙◌, sym, ap, subst, refl, Bool, true, false, is_some, Option, Some, None, option_map, slice_get, All, List, [], map, arith}
use Rattle.std.specs.Prelude.{is_none, option_and_then}
use Rattle.std.proofs.lemmas.Option.{slice_get-map}
use mathlib.Core.Logic.{dite, ⊎_elim}
use native.Mathlib.Decide.{dec_le}
use Rattle.omx_types.specs.declared.handle.Handle.{Handle}
use Rattle.il_machine.specs.Answers.{component_named}
use Rattle.il_machine.specs.Look.{Look, look}
use Rattle.il_machine.specs.Sound.{Sound}
use Rattle.il_machine.specs.Whole.{Stands}
use Rattle.il_machine.specs.World.{Component, Work, World, component_numbered, number_of}
use Rattle.machine_laws.proofs.Every.{at_place, from_places}
use Rattle.history_laws.specs.Works.{has_work_out}
use Rattle.history_laws.proofs.HeldOut.{placed_in}
use Rattle.history_laws.proofs.Named.{is_named, named, named_there}
use Rattle.history_laws.proofs.Naming.{named_place, own_named}
use Rattle.il_component.specs.Entries.{Entry as Kept, component_of}
use Rattle.graph_core.specs.Entries.{Entries, client_named, components_of, entry_named, entry_place, look_of}
use Rattle.graph_core.proofs.Replacing.{entry_place_is}
use Rattle.il_graph.specs.Shown.{Shown, kept}
use Rattle.turnstile.specs.declared.entry.Entry.{Entry}
use Rattle.turnstile.specs.Entries.{own}
use Rattle.held_things.specs.Held.{Has, AreHeld}
use Rattle.graph_acts.specs.Plain.{Sight}
use Rattle.graph_acts.specs.Holding.{Clear}
use Rattle.board.specs.declared.asked.Asked.{Asked}
use Rattle.board.specs.declared.asked.Told.{Told}
use Rattle.board.specs.Asking.{bare_log}
use Rattle.board.specs.Histories.{HeadersAreHeld, ClientsAreHeld, WorksAreHeld, IsClear}
use Rattle.board.specs.Serving.{own_bare}
use Rattle.board.specs.Boards.{HasAllBack}

module _ {X K : Type 0} (key : X → K) (held : ℕ → List X) (Out : X → Type 0) (Is Was : K → Type 0) where
  none_out : AreHeld key held Out Is Was → ((p : ℕ) → held p ≡ []) → (k : K) → Is k → Was k
  none_out H none k is = ⊎_elim (λ w. w) (λ s. absurd (subst (λ l. Has l s.1) (none s.0) s.2)) (H.all k is)

none_works : (n : ℕ) (cs : List Component) (o : Option Component) → named n cs ≡ o → All (λ c. c.work ≡ None) cs → is_some (option_and_then (λ (c : Component). c.work) o) ≡ false
none_works n cs None e A = refl
none_works n cs (Some c) e A = let i = placed_in n cs c e in ap (λ (o : Option Work). is_some o) (at_place (λ (d : Component). d.work ≡ None) cs i.0 c A i.1)

none_of : (o : Option Work) → (is_some o ≡ true → ⊥) → o ≡ None
none_of None f = refl
none_of (Some work) f = absurd (f refl)

-- where no work is out but of components that had theirs out in a world that has none out, none is out
no_works : (w v : World) → Sound v → ((n : ℕ) → has_work_out n v ≡ true → has_work_out n w ≡ true) → All (λ c. c.work ≡ None) w.components → All (λ c. c.work ≡ None) v.components
no_works w v S was A = from_places (λ (c : Component). c.work ≡ None) v.components (λ i c at. none_of c.work (λ works.
    let there : component_numbered (number_of c) v ≡ Some c = is_named (number_of c) v ∙ named_there 0 v.numbered i v.components c S.rising at in
    let out : has_work_out (number_of c) v ≡ true = ap (λ (o : Option Component). is_some (option_and_then (λ (d : Component). d.work) o)) there ∙ works in
    let none : has_work_out (number_of c) w ≡ false = none_works (number_of c) w.components (component_numbered (number_of c) w) (sym (is_named (number_of c) w)) A in
    let z : true ≡ false = sym (was (number_of c) out) ∙ none in
    cc))

-- ---- client objects

places_map : {X Y : Type 0} (f : X → Y) (xs : List X) (p : Option ℕ) → option_and_then (slice_get (map f xs)) p ≡ option_map f (option_and_then (slice_get xs) p)
places_map f xs None = refl
places_map f xs (Some i) = slice_get-map f xs i

not_true : (b : Bool) → (b ≡ true → ⊥) → b ≡ false
not_true false f = refl
not_true true f = absurd (f refl)

module _ {C : Type 0} where
  client_is_none : (o : Option C) → is_none o ≡ true → o ≡ None
  client_is_none None e = refl
  client_is_none (Some c) e = absurd cc

  -- as the machine names it
  named_as : (h : Handle) (g : Entries C) → component_named h (components_of g.entries) ≡ option_map component_of (entry_named h g)
  named_as h g = ap (option_and_then (slice_get (components_of g.entries))) (entry_place_is h g.entries) ∙ places_map component_of g.entries (entry_place h g.entries)

  gone_here : (o : Option (Kept C)) (d : Component) → option_map component_of o ≡ Some d → d.client_out ≡ true → option_map (λ (e : Kept C). e.queues.client) o ≡ Some None
  gone_here None d e out = absurd cc
  gone_here (Some x) d e out = let is : component_of x ≡ d = cc in ap (λ (o : Option C). Some o) (client_is_none x.queues.client (ap (λ (c : Component). c.client_out) is ∙ out))

  gone_there : (o : Option (Kept C)) → option_map (λ (e : Kept C). e.queues.client) o ≡ Some None → (d : Component) × (option_map component_of o ≡ Some d) × (d.client_out ≡ true)
  gone_there None e = absurd cc
  gone_there (Some x) e = let none : x.queues.client ≡ None = cc in (component_of x, refl, ap (λ (o : Option C). is_none o) none)

  -- where no client object is out but of components that had theirs out in a graph that has none out, none is out
  no_clients : (first g : Entries C) (v : World) → Sound v → look v ≡ look_of g → ((h : Handle) → client_named h g ≡ Some None → client_named h first ≡ Some None)
      → All (λ c. c.client_out ≡ false) (components_of first.entries) → All (λ c. c.client_out ≡ false) (components_of g.entries)
  no_clients first g v S looks was A = from_places (λ (c : Component). c.client_out ≡ false) (components_of g.entries) (λ i c at. not_true c.client_out (λ out.
      let there : slice_get v.components i ≡ Some c = ap (λ (l : Look). slice_get l.components i) looks ∙ at in
      let named : component_named c.handle (components_of g.entries) ≡ Some c = ap (λ (l : Look). component_named c.handle l.components) (sym looks) ∙ own_named v i c S there in
      let d = gone_there (entry_named c.handle first) (was c.handle (gone_here (entry_named c.handle g) c (sym (named_as c.handle g) ∙ named) out)) in
      let x = named_place c.handle (components_of first.entries) d.0 (named_as c.handle first ∙ d.1) in
      let z : true ≡ false = sym d.2 ∙ at_place (λ (c : Component). c.client_out ≡ false) (components_of first.entries) x.0 d.0 A x.1 in
      cc))

module _ {S K C : Type 0} (see : Sight S K C) (first g : Shown S K C) (log : List (Entry (Asked S K C) (Told S K C))) (splits : ℕ) where
  all_clear : ((p : ℕ) → p ≤ splits → IsClear see (own p log)) → ((p : ℕ) → splits < p → own p log ≡ []) → (p : ℕ) → Clear see (own p (bare_log log))
  all_clear each others p = subst (Clear see) (own_bare p log)
      (dite (dec_le p splits) (λ le. each p le) (λ nle. let lt : splits < p = omega arith in subst (IsClear see) (sym (others p lt)) (refl, refl, refl)))

  pub whole : HeadersAreHeld first (bare_log log) g → ClientsAreHeld see first (bare_log log) g
      → (w v : World) → Stands (kept see.progress first) w → Stands (kept see.progress g) v → Sound v → WorksAreHeld w (bare_log log) v
      → ((p : ℕ) → p ≤ splits → IsClear see (own p log)) → ((p : ℕ) → splits < p → own p log ≡ []) → HasAllBack first → HasAllBack g
  whole H O w v F T S L each others W =
      let clear = all_clear each others in record {
        headers = λ n is. W.headers n (none_out _ _ _ _ _ H (λ p. (clear p).0) n is);
        clients = no_clients first.core g.core v S T.looks (λ h is. none_out _ _ _ _ _ O (λ p. (clear p).1) h is) W.clients;
        works = subst (λ (l : Look). All (λ c. c.work ≡ None) l.components) T.looks
            (no_works w v S (λ n is. none_out _ _ _ _ _ L (λ p. (clear p).2) n is) (subst (λ (l : Look). All (λ c. c.work ≡ None) l.components) (sym F.looks) W.works));
      }
