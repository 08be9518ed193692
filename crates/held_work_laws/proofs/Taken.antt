-- A work that a claim gave is held in the world that the claim led to.
use Rattle.std.proofs.Common.{◌≡◌, ℕ, false, List, Option, Some, None, Result, Ok, Err, refl, sym, ◌∙◌, ap, subst}
use Rattle.std.specs.Prelude.{IsSomeAnd}
use Rattle.omx_types.specs.declared.error.OmxError.{OmxError}
use Rattle.omx_types.specs.declared.handle.Handle.{Handle}
use Rattle.part_api.specs.Terms.{Terms}
use Rattle.il_machine.specs.World.{Component, Stream, World, component_numbered, number_of, stream_of}
use Rattle.il_machine.specs.Look.{Look}
use Rattle.il_machine.specs.Answers.{component_named}
use Rattle.il_machine.specs.Claims.{Claimed, ClaimedWork, ClaimedBusy, ClaimedNotRunning, ClaimedEnded, ClaimedHeld, ClaimedNoData, ClaimedNoRoom, ClaimedEvents, WorkSeen}
use Rattle.il_machine.specs.Acts as acts
use Rattle.il_machine.specs.Run.{Step}
use Rattle.il_machine.specs.Sound.{Sound}
use Rattle.il_machine.specs.Whole.{HasDone, Kept, Stands}
use Rattle.machine_laws.proofs.Steps.{sound_step}
use Rattle.history_laws.specs.Works.{IsHeldOut, has_work_out}
use Rattle.history_laws.proofs.Freed.{none_before}
use Rattle.history_laws.proofs.HeldOut.{claims_held}
use Rattle.history_laws.proofs.Named.{is_named, named_there}
use Rattle.history_laws.proofs.Naming.{named_place}
use Rattle.header_core.specs.BufferHeader.{BufferHeader}
use Rattle.graph_core.specs.Claiming.{AreLent}
use Rattle.il_flow.specs.Places.{AreHeadersOf}
use Rattle.il_flow.proofs.Sameness.{itself}
use Rattle.il_graph.specs.Finishing.{IsItsOwn}
use Rattle.il_graph.proofs.Returning.{handed_back}
use Rattle.held_work_laws.specs.Works.{HeldWork, seen_of, AreOfWorld, IsHeld}
use Rattle.held_work_laws.specs.Claims.{HasItsOwn, IsTaken, TakesBy}
use Rattle.held_work_laws.specs.Places.{IsWorkless}

-- ---- what a graph's claim gives

pub and_some : {A : Type 0} (o : Option A) (P : A → Type 0) → IsSomeAnd o P → (x : A) × (o ≡ Some x) × P x
and_some None P h = absurd h
and_some (Some x) P h = (x, refl, h)

pub some_and : {A : Type 0} (o : Option A) (P : A → Type 0) (x : A) → o ≡ Some x → P x → IsSomeAnd o P
some_and o P x e p = rw e p

lent_worlds : (k : Kept) (v : World) (component : ℕ) (headers : List (Option BufferHeader)) → Stands k v → AreLent component headers k.looks → AreOfWorld v headers
lent_worlds k v component headers S A = subst (λ (l : Look). AreHeadersOf l.key l.headers.header 0 headers) (sym S.looks) (handed_back component headers headers k.looks A (itself headers))

own_there : (k : Kept) (v : World) (h : Handle) (x : HeldWork) → Stands k v → IsSomeAnd (component_named h (k.looks).components) (λ c. IsItsOwn c x.announces None x.terms x.failed) → HasItsOwn h x v
own_there k v h x S own =
    let y = and_some (component_named h (k.looks).components) _ own in
    let there : component_named h v.components ≡ Some y.0 = ap (λ (l : Look). component_named h l.components) S.looks ∙ y.1 in
    some_and (component_named h v.components) _ y.0 there (y.2.kind, y.2.its_file)

pub work_taken : (k : Kept) (h : Handle) (t : Terms) (x : HeldWork) (v : World) → Stands k v → x.handle ≡ h → (x.announces ≡ false → x.terms ≡ t)
    → ((s : Stream) → stream_of h.generation v ≡ Some s → HasDone t false s x.part) → IsSomeAnd (component_named h (k.looks).components) (λ c. IsItsOwn c x.announces None x.terms x.failed) → x.failed ≡ false
    → AreLent h.generation x.headers k.looks → IsTaken h x (seen_of t x) v
work_taken k h t x v S is set_so gone own unfailed lent = record {
  terms = t;
  handle = is;
  seen = refl;
  set_so = set_so;
  gone = gone;
  own = own_there k v h x S own;
  unfailed = unfailed;
  headers = lent_worlds k v h.generation x.headers S lent;
}

-- ---- it is held

-- the component that the handle names is that of its number
own_component : (v : World) (h : Handle) (x : HeldWork) (t : Terms) (s : Stream) → Sound v → x.handle ≡ h → (O : IsHeldOut v (seen_of t x) s) → HasItsOwn h x v
    → ((x.terms).kind ≡ (O.component).settings.kind) × ((x.terms).file ≡ (O.component).file)
own_component v h x t s S is O H =
    let y = and_some (component_named h v.components) _ H in
    let p = named_place h v.components y.0 y.1 in
    let named : component_numbered (number_of y.0) v ≡ Some y.0 = is_named (number_of y.0) v ∙ named_there 0 v.numbered p.0 v.components y.0 S.rising p.1 in
    let number : number_of y.0 ≡ x.handle.generation = ap (λ (k : Handle). k.generation) (p.2 ∙ sym is) in
    let both : Some y.0 ≡ Some O.component = sym named ∙ (ap (λ (n : ℕ). component_numbered n v) number ∙ O.there) in
    let same : y.0 ≡ O.component = cc in
    (y.2.0 ∙ ap (λ (c : Component). c.settings.kind) same, y.2.1 ∙ ap (λ (c : Component). c.file) same)

module _ (h : Handle) (x : HeldWork) (work : WorkSeen) (w v : World) (S : Sound w) (step : Step w (acts.Claim h) (acts.Claimed (Ok (ClaimedWork work))) v) (T : IsTaken h x work v) where
  pub taken_number : x.handle.generation ≡ h.generation
  taken_number = ap (λ (y : Handle). y.generation) T.handle

  pub taken_held : IsHeld v x
  taken_held =
      let t = T.terms in
      let C = claims_held w h work v S step in
      let O : IsHeldOut v (seen_of t x) C.0 = subst (λ (y : WorkSeen). IsHeldOut v y C.0) T.seen C.2 in
      let part = own_component v h x t C.0 (sound_step w v (acts.Claim h) (acts.Claimed (Ok (ClaimedWork work))) tt step S) T.handle O T.own in
      record {
        terms = t;
        stream = C.0;
        out = O;
        set_so = T.set_so;
        kind = part.0 ∙ O.kind;
        file = part.1 ∙ O.file;
        unfailed = T.unfailed;
        gone = T.gone C.0 (ap (λ (k : ℕ). stream_of k v) (sym taken_number) ∙ O.stream);
        headers = T.headers;
      }

  -- before the claim none was out
  pub none_out : has_work_out h.generation w ≡ false
  none_out =
      let n : work.component ≡ x.handle.generation = ap (λ (y : WorkSeen). y.component) T.seen in
      ap (λ (k : ℕ). has_work_out k w) (sym (n ∙ taken_number)) ∙ none_before w h work v S step

-- ---- by the answer of a claim

module _ (Keeps : HeldWork → Type 0) (Else G : Type 0) (h : Handle) (w v : World)
    (given : (work : WorkSeen) (x : HeldWork) → Step w (acts.Claim h) (acts.Claimed (Ok (ClaimedWork work))) v → Keeps x → IsTaken h x work v → G)
    (none : (answer : Result Claimed OmxError) → Step w (acts.Claim h) (acts.Claimed answer) v → IsWorkless (acts.Claim h) (acts.Claimed answer) → Else → G) where
  pub by_answer : (answer : Result Claimed OmxError) → Step w (acts.Claim h) (acts.Claimed answer) v → TakesBy Keeps Else h answer v → G
  by_answer (Ok (ClaimedWork work)) step T = given work T.0 step T.1 T.2
  by_answer (Ok ClaimedBusy) step T = none (Ok ClaimedBusy) step (λ n. (refl, refl)) T
  by_answer (Ok ClaimedNotRunning) step T = none (Ok ClaimedNotRunning) step (λ n. (refl, refl)) T
  by_answer (Ok ClaimedEnded) step T = none (Ok ClaimedEnded) step (λ n. (refl, refl)) T
  by_answer (Ok (ClaimedHeld port)) step T = none (Ok (ClaimedHeld port)) step (λ n. (refl, refl)) T
  by_answer (Ok (ClaimedNoData port)) step T = none (Ok (ClaimedNoData port)) step (λ n. (refl, refl)) T
  by_answer (Ok (ClaimedNoRoom port)) step T = none (Ok (ClaimedNoRoom port)) step (λ n. (refl, refl)) T
  by_answer (Ok (ClaimedEvents room need)) step T = none (Ok (ClaimedEvents room need)) step (λ n. (refl, refl)) T
  by_answer (Err error) step T = none (Err error) step (λ n. (refl, refl)) T
