-- The acts by which client objects and files go into a graph and come out of it.
use Rattle.std.proofs.Common.{◌≡◌, ℕ, nat_eq, Bool, true, false, List, Option, Some, None, option_map, option_and_then, slice_get, Result, Ok, Err, IfOk, OnOk, OnErr, String, if◌then◌else◌, refl, sym, ◌∙◌, ap, eqb-true, eq-eqb}
use Rattle.std.specs.declared.alloc.Global.{Global}
use Rattle.omx_types.specs.declared.handle.Handle.{Handle}
use Rattle.omx_types.specs.declared.error.OmxError.{OmxError}
use Rattle.omx_types.specs.declared.error.CallError.{CallError}
use Rattle.part_api.specs.declared.attached.Attached.{Attached}
use Rattle.il_machine.specs.declared.answer.Progress.{Progress as Reached}
use Rattle.il_machine.specs.Acts as acts
use Rattle.il_machine.specs.Answers.{component_named}
use Rattle.il_machine.specs.Components.{FreeHandle}
use Rattle.il_machine.specs.Look.{Look}
use Rattle.il_machine.specs.Whole.{Always, Steps}
use Rattle.il_machine.specs.World.{Component, component_numbered, is_numbered, place_numbered, same_handle}
use Rattle.il_machine.proofs.Places.{is_first_place, passes_at}
use Rattle.machine_laws.proofs.Finding.{either}
use Rattle.machine_laws.proofs.Keys.{there_is}
use Rattle.history_laws.proofs.Naming.{handle_is}
use Rattle.history_laws.proofs.Seats.{handle_stays}
use Rattle.note_queues.specs.declared.taken.Took.{Took}
use Rattle.note_queues.specs.declared.taken.Took.TheVariants as tooks
use Rattle.audio_parts.specs.AnyParts.{file_of as part_file}
use Rattle.audio_parts.specs.Shown.{ShownPart}
use Rattle.audio_parts.specs.declared.any_part.AnyPart.{AnyPart}
use Rattle.audio_parts.specs.declared.part_file.PartFile.{PartFile}
use Rattle.graph_core.specs.Clients.{AreTold, KeepsAllClients, KeepsClients, TakesClient}
use Rattle.graph_core.specs.Entries.{client_named, client_of, components_of, entry_named}
use Rattle.il_flow.specs.Works.{DoneOf, WorkOf}
use Rattle.il_graph.specs.Claiming.{OnNoWork, OnWork}
use Rattle.il_graph.specs.Shown.{Shown, SoundWhole, KeepsAllFiles, KeepsFiles, file_at, file_of, kept}
use Rattle.il_graph.specs.Stood.{with_record}
use Rattle.il_graph.specs.declared.claimed.Claimed.{Claimed as Given}
use Rattle.il_graph.specs.declared.claimed.Claimed.TheVariants as given
use Rattle.il_graph.specs.declared.freed.Freed.{Freed}
use Rattle.il_graph.proofs.Looking.{named_is}
use Rattle.graph_acts.specs.declared.act.Act.{Act}
use Rattle.graph_acts.specs.declared.act.Act.TheVariants as asks
use Rattle.graph_acts.specs.declared.act.Reply.{Reply}
use Rattle.graph_acts.specs.declared.act.Reply.TheVariants as replies
use Rattle.graph_acts.specs.Hiding.{shown_done}
use Rattle.graph_acts.specs.Lending.{lent_as}
use Rattle.graph_acts.specs.Objects.{GivesThem, MovesObjects, client_moved, clients_in, file_moved, files_in, with_at}
use Rattle.graph_acts.proofs.ClientActs.{all_clients}

map_none : {X Y : Type 0} (f : X → Y) (o : Option X) → option_map f o ≡ None → o ≡ None
map_none f None e = refl
map_none f (Some x) e = absurd cc

none_mapped : {X Y : Type 0} (f : X → Y) (o : Option X) → o ≡ None → option_map f o ≡ None
none_mapped f o e = ap (option_map f) e

none_there : {X : Type 0} (o : Option X) → ((x : X) → o ≡ Some x → ⊥) → o ≡ None
none_there None f = refl
none_there (Some x) f = absurd (f x refl)

module _ {S K : Type 0} where
  pub on_work : {s : _} {k : _} {E : Type 0} (answer : Result (Given S K s k) E) (P Q : WorkOf (AnyPart S K s k) → Type 0) → ((work : WorkOf (AnyPart S K s k)) → P work → Q work) → OnWork answer P → OnWork answer Q
  on_work (Ok (given.Work work)) P Q f h = f work h
  on_work (Ok given.Busy) P Q f h = tt
  on_work (Ok given.NotRunning) P Q f h = tt
  on_work (Ok given.Ended) P Q f h = tt
  on_work (Ok (given.Held port)) P Q f h = tt
  on_work (Ok (given.NoData port)) P Q f h = tt
  on_work (Ok (given.NoRoom port)) P Q f h = tt
  on_work (Ok (given.Events room need)) P Q f h = tt
  on_work (Err e) P Q f h = tt

module _ {S K C : Type 0} where
  -- the act puts nothing in and takes nothing out
  pub record IsStill (a : Act S K C) (r : Reply S K C) : Type 0 where
    pub client : client_moved a r ≡ None
    pub file : file_moved a r ≡ None
    pub given : (clients : Handle → Option C) (files : ℕ → Option (PartFile S K)) → GivesThem clients files a r

  pub objects_stay : (a : Act S K C) (r : Reply S K C) (old new : Shown S K C) → KeepsAllClients old.core new.core → KeepsAllFiles old new → IsStill a r → MovesObjects a r old new
  objects_stay a r old new A F Q = record {
    clients = λ h. ap (option_and_then (λ (client : Option C). client)) (A h) ∙ ap (λ (o : Option (Handle × Option C)). with_at same_handle o (clients_in old) h) (sym Q.client);
    files = λ n. F n ∙ ap (λ (o : Option (ℕ × Option (PartFile S K))). with_at nat_eq o (files_in old) n) (sym Q.file);
    given = Q.given (clients_in old) (files_in old);
  }

  -- the graph is as before
  pub same_objects : (a : Act S K C) (r : Reply S K C) (old new : Shown S K C) → new ≡ old → IsStill a r → MovesObjects a r old new
  same_objects a r old new e Q = objects_stay a r old new (λ k. ap (λ (g : Shown S K C). client_named k g.core) e) (λ n. ap (file_of n) e) Q

  -- one client object changes, and one file
  pub clients_set : (h : Handle) (x : Option C) (old new : Shown S K C) → clients_in new h ≡ x → KeepsClients h old.core new.core → (k : Handle) → clients_in new k ≡ with_at same_handle (Some (h, x)) (clients_in old) k
  clients_set h x old new e K k = either (same_handle k h)
      (λ t. ap (clients_in new) (handle_is k h t) ∙ (e ∙ ap (λ (b : Bool). if b then x else clients_in old k) (sym t)))
      (λ f. ap (option_and_then (λ (client : Option C). client)) (K k f) ∙ ap (λ (b : Bool). if b then x else clients_in old k) (sym f))

  pub files_set : (n : ℕ) (x : Option (PartFile S K)) (old new : Shown S K C) → files_in new n ≡ x → KeepsFiles n old new → (k : ℕ) → files_in new k ≡ with_at nat_eq (Some (n, x)) (files_in old) k
  files_set n x old new e K k = either (nat_eq k n)
      (λ t. ap (files_in new) (eqb-true k n t) ∙ (e ∙ ap (λ (b : Bool). if b then x else files_in old k) (sym t)))
      (λ f. K k (λ is. let z : true ≡ false = sym (eq-eqb k n is) ∙ f in cc) ∙ ap (λ (b : Bool). if b then x else files_in old k) (sym f))

  -- ---- components come and go

  pub got_objects : (name : String Global) (client : C) (result : Result Handle (CallError × C)) (old new : Shown S K C)
      → IfOk result (λ h. client_of h new.core ≡ Some client) → IfOk result (λ h. KeepsClients h old.core new.core) → OnErr result (KeepsAllClients old.core new.core)
      → IfOk result (λ h. file_of h.generation new ≡ None) → IfOk result (λ h. KeepsFiles h.generation old new) → OnErr result (KeepsAllFiles old new)
      → MovesObjects (asks.GetHandle name client) (replies.GetHandle result) old new
  got_objects name client (Ok h) old new is K c f F e = record { clients = clients_set h (Some client) old new is K; files = files_set h.generation None old new f F; given = tt }
  got_objects name client (Err x) old new is K c f F e = objects_stay (asks.GetHandle name client) (replies.GetHandle (Err x)) old new c e (record { client = refl; file = refl; given = λ clients files. tt })

  no_file : (g : Shown S K C) (n : ℕ) (cs : List Component) (o : Option ℕ) → place_numbered n cs ≡ o → option_and_then (slice_get cs) o ≡ None → option_and_then (file_at g) o ≡ None
  no_file g n cs None p e = refl
  no_file g n cs (Some i) p e =
      let x = passes_at (is_numbered n) cs i (sym (is_first_place (is_numbered n) cs) ∙ p) in
      let z : Some x.0 ≡ None = sym x.1 ∙ e in
      absurd cc

  -- there is no component of the number of one that was freed
  freed_file : (progress : C → Reached) (h : Handle) (file : Option Attached) (client : C) (old new : Shown S K C) → SoundWhole (kept progress old) → Always (kept progress old) (AreTold progress old.core)
      → Steps (kept progress old) (kept progress new) (λ w v. FreeHandle w h (Ok file) v) → client_of h old.core ≡ Some client → client_named h new.core ≡ None → files_in new h.generation ≡ None
  freed_file progress h file client old new W T S is gone =
      let w = W.world in
      let s = S w W.stands in
      let v = s.0 in
      let c = there_is (component_named h w.components) _ (T w W.stands h client is) in
      let named : component_named h v.components ≡ None = ap (λ (l : Look). component_named h l.components) (s.1).looks ∙ (named_is progress new.core h ∙ none_mapped _ (entry_named h new.core) (map_none _ (entry_named h new.core) gone)) in
      let none : component_numbered h.generation v ≡ None = none_there (component_numbered h.generation v)
      (λ d e. let z : Some d ≡ None = sym (handle_stays w (acts.FreeHandle h) (acts.Removed (Ok file)) v h c.0 d W.sound tt s.2 c.1 e) ∙ named in cc) in
      let cs = components_of new.core.entries in
      no_file new h.generation cs (place_numbered h.generation cs) refl (ap (λ (l : Look). option_and_then (slice_get l.components) (place_numbered h.generation l.components)) (sym (s.1).looks) ∙ none)

  pub freed_objects : (progress : C → Reached) (h : Handle) (result : Result (Freed S K C) OmxError) (old new : Shown S K C) → SoundWhole (kept progress old) → Always (kept progress old) (AreTold progress old.core)
      → Steps (kept progress old) (kept progress new) (λ w v. FreeHandle w h (with_record result) v)
      → IfOk result (λ freed. client_of h old.core ≡ Some freed.client) → IfOk result (λ freed. freed.file ≡ file_of h.generation old) → OnOk result (client_named h new.core ≡ None)
      → KeepsClients h old.core new.core → KeepsFiles h.generation old new → OnErr result (new ≡ old) → MovesObjects (asks.FreeHandle h) (replies.FreeHandle result) old new
  freed_objects progress h (Ok freed) old new W T S is file gone K F e = record {
    clients = clients_set h None old new (ap (option_and_then (λ (client : Option C). client)) gone) K;
    files = files_set h.generation None old new (freed_file progress h _ freed.client old new W T S is gone) F;
    given = (is, file);
  }
  freed_objects progress h (Err x) old new W T S is file gone K F e = same_objects (asks.FreeHandle h) (replies.FreeHandle (Err x)) old new e (record { client = refl; file = refl; given = λ clients files. tt })

  pub attached_objects : (h : Handle) (file : PartFile S K) (result : Result (Unit {0}) (OmxError × PartFile S K)) (old new : Shown S K C) → OnOk result (file_of h.generation new ≡ Some file) → KeepsFiles h.generation old new
      → KeepsAllClients old.core new.core → OnErr result (new ≡ old) → MovesObjects (asks.Attach h file) (replies.Attach result) old new
  attached_objects h file (Ok done) old new is F A e = record { clients = λ k. ap (option_and_then (λ (client : Option C). client)) (A k); files = files_set h.generation (Some file) old new is F; given = tt }
  attached_objects h file (Err x) old new is F A e = same_objects (asks.Attach h file) (replies.Attach (Err x)) old new e (record { client = refl; file = refl; given = λ clients files. tt })

  -- ---- notes

  pub took_objects : (h : Handle) (result : Result (Took C) OmxError) (old new : Shown S K C) → IfOk result (λ took. TakesClient h old.core took new.core) → KeepsClients h old.core new.core → KeepsAllFiles old new
      → OnErr result (new ≡ old) → MovesObjects (asks.TakeNote h) (replies.TakeNote result) old new
  took_objects h (Ok (tooks.Call call)) old new T K F e = record { clients = clients_set h None old new (ap (option_and_then (λ (client : Option C). client)) T.1) K; files = F; given = T.0 }
  took_objects h (Ok tooks.None) old new T K F e = objects_stay (asks.TakeNote h) (replies.TakeNote (Ok tooks.None)) old new (all_clients h old new K T.1) F (record { client = refl; file = refl; given = λ clients files. tt })
  took_objects h (Ok tooks.Busy) old new T K F e = objects_stay (asks.TakeNote h) (replies.TakeNote (Ok tooks.Busy)) old new (all_clients h old new K (T.1 ∙ sym T.0)) F (record { client = refl; file = refl; given = λ clients files. tt })
  took_objects h (Err x) old new T K F e = same_objects (asks.TakeNote h) (replies.TakeNote (Err x)) old new e (record { client = refl; file = refl; given = λ clients files. tt })

  pub ended_objects : (h : Handle) (client : C) (r : Reply S K C) (old new : Shown S K C) → client_of h new.core ≡ Some client → KeepsClients h old.core new.core → KeepsAllFiles old new → MovesObjects (asks.EndNote h client) r old new
  ended_objects h client r old new is K F = record { clients = clients_set h (Some client) old new is K; files = F; given = tt }

  -- ---- works

  module _ {s : _} {k : _} (f : AnyPart S K s k → ShownPart S K) (file : (part : AnyPart S K s k) → (f part).file ≡ part_file part) where
    pub claimed_objects : (h : Handle) (answer : Result (Given S K s k) OmxError) (old new : Shown S K C) → OnWork answer (λ work. work.component ≡ h) → OnWork answer (λ work. part_file work.part ≡ file_of h.generation old)
        → OnWork answer (λ work. (f work.part).failed ≡ false) → OnWork answer (λ work. file_of h.generation new ≡ None) → KeepsFiles h.generation old new → KeepsAllClients old.core new.core → OnNoWork answer (new ≡ old) → MovesObjects (asks.Claim h) (replies.Claim (lent_as f answer)) old new
    claimed_objects h (Ok (given.Work work)) old new own its whole gone F A e = record {
      clients = λ j. ap (option_and_then (λ (client : Option C). client)) (A j);
      files = files_set h.generation None old new gone F;
      given = (own, file work.part ∙ its, whole);
    }
    claimed_objects h (Ok given.Busy) old new own its whole gone F A e = same_objects _ _ old new e (record { client = refl; file = refl; given = λ clients files. tt })
    claimed_objects h (Ok given.NotRunning) old new own its whole gone F A e = same_objects _ _ old new e (record { client = refl; file = refl; given = λ clients files. tt })
    claimed_objects h (Ok given.Ended) old new own its whole gone F A e = same_objects _ _ old new e (record { client = refl; file = refl; given = λ clients files. tt })
    claimed_objects h (Ok (given.Held port)) old new own its whole gone F A e = same_objects _ _ old new e (record { client = refl; file = refl; given = λ clients files. tt })
    claimed_objects h (Ok (given.NoData port)) old new own its whole gone F A e = same_objects _ _ old new e (record { client = refl; file = refl; given = λ clients files. tt })
    claimed_objects h (Ok (given.NoRoom port)) old new own its whole gone F A e = same_objects _ _ old new e (record { client = refl; file = refl; given = λ clients files. tt })
    claimed_objects h (Ok (given.Events room need)) old new own its whole gone F A e = same_objects _ _ old new e (record { client = refl; file = refl; given = λ clients files. tt })
    claimed_objects h (Err x) old new own its whole gone F A e = same_objects _ _ old new e (record { client = refl; file = refl; given = λ clients files. tt })

    pub finished_objects : (done : DoneOf (AnyPart S K s k)) (r : Reply S K C) (old new : Shown S K C) → file_of done.component.generation new ≡ part_file done.part → KeepsFiles done.component.generation old new → KeepsAllClients old.core new.core
        → MovesObjects (asks.Finish (shown_done f done)) r old new
    finished_objects done r old new is F A = record {
      clients = λ j. ap (option_and_then (λ (client : Option C). client)) (A j);
      files = files_set done.component.generation (f done.part).file old new (is ∙ sym (file done.part)) F;
      given = tt;
    }
