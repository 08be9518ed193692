-- Each call of the graph makes its act.
use Rattle.std.proofs.Common.{◌≡◌, inl, ℕ, ◌∙◌, sym, subst, refl, false, Option, None, IfSome}
use Rattle.omx_types.specs.declared.handle.Handle.{Handle}
use Rattle.il_machine.specs.World.{World}
use Rattle.il_machine.specs.Sound.{Sound}
use Rattle.il_machine.specs.Whole.{Stands}
use Rattle.il_machine.specs.Run.{Step, Meets}
use Rattle.header_core.specs.BufferHeader.{BufferHeader}
use Rattle.history_laws.specs.Given.{LeavesNotes}
use Rattle.history_laws.specs.Works.{returns_work, takes_work}
use Rattle.graph_core.specs.Entries.{look_of}
use Rattle.il_graph.specs.Shown.{Shown, kept}
use Rattle.graph_core.specs.Clients.{KeepsAllClients}
use Rattle.il_graph.specs.HandedIn.{KeepsHandedIn}
use Rattle.graph_acts.specs.declared.act.Act.{Act}
use Rattle.graph_acts.specs.declared.act.Reply.{Reply}
use Rattle.graph_acts.specs.Replying.{IsReplyTo}
use Rattle.graph_acts.specs.Objects.{MovesObjects}
use Rattle.graph_acts.specs.Plain.{Sight, Unsaid, plain_act, plain_reply}
use Rattle.graph_acts.specs.Working.{MovesWorks, OutWork, work_back, work_given}
use Rattle.graph_acts.specs.Holding.{OutClient, taken_in, given_out, client_in, client_out}
use Rattle.graph_acts.specs.Moving.{IsSo, MovesHeaders, MovesClients, HasSize, Moved}
use Rattle.graph_acts.proofs.Lasting.{works_stay}

if_none : {X : Type 0} (o : Option X) (P : X → Type 0) → o ≡ None → IfSome o P
if_none o P e = subst (λ z. IfSome z P) (sym e) tt

module _ {S K C : Type 0} where
  pub headers_stay : (old new : Shown S K C) → KeepsHandedIn (look_of old.core) (look_of new.core) → MovesHeaders None None old new
  headers_stay old new K = record {
    stay = λ x o h. K.stay x h;
    back = λ n h. inl (K.come n h, tt);
    given = tt;
  }

  pub clients_stay : (old new : Shown S K C) → KeepsAllClients old.core new.core → MovesClients None None old new
  clients_stay old new K = record {
    stay = λ x o h. (K x.handle ∙ h.0, h.1);
    back = λ k h. inl (sym (K k) ∙ h, tt);
    given = tt;
  }

module _ {S K C : Type 0} where
  -- the act moves no header, no client object and no work
  pub record IsQuiet (see : Sight S K C) (act : Act S K C) (reply : Reply S K C) : Type 0 where
    pub taken : taken_in act reply ≡ None
    pub given : given_out reply ≡ None
    pub back : client_in act ≡ None
    pub gone : client_out see.progress act reply ≡ None
    pub done : work_back act ≡ None
    pub work : work_given reply ≡ None
    pub works : (n : ℕ) (u : Unsaid) → (returns_work n (plain_act see u act) (plain_reply u reply) ≡ false) × (takes_work n (plain_act see u act) (plain_reply u reply) ≡ false)
    pub replied : IsReplyTo act reply
    pub sized : HasSize act
    pub leaves : (n : ℕ) (u : Unsaid) → LeavesNotes n (plain_act see u act) (plain_reply u reply)

  -- no work goes out or comes back
  pub works_alone : (see : Sight S K C) (act : Act S K C) (reply : Reply S K C) (old new : Shown S K C)
      → ((n : ℕ) (u : Unsaid) → (returns_work n (plain_act see u act) (plain_reply u reply) ≡ false) × (takes_work n (plain_act see u act) (plain_reply u reply) ≡ false))
      → (w v : World) → Sound w → Stands (kept see.progress old) w → Stands (kept see.progress new) v → (u : Unsaid) → IsSo see old w u act → Meets w (plain_act see u act) → Step w (plain_act see u act) (plain_reply u reply) v
      → MovesWorks {S = S} {K = K} None None w v
  works_alone see act reply old new q w v S o n u so m step = works_stay w v (plain_act see u act) (plain_reply u reply) S m step (λ k. q k u)

  pub quiet_moved : (see : Sight S K C) (act : Act S K C) (reply : Reply S K C) (old new : Shown S K C)
      → ((u : Unsaid) (w : World) → Stands (kept see.progress old) w → (v : World) × Stands (kept see.progress new) v × Step w (plain_act see u act) (plain_reply u reply) v)
      → KeepsHandedIn (look_of old.core) (look_of new.core) → KeepsAllClients old.core new.core → MovesObjects act reply old new → IsQuiet see act reply → Moved see act reply old new
  quiet_moved see act reply old new T H A O Q = record {
    step = λ w s u k m. T u w s;
    replied = Q.replied;
    sized = Q.sized;
    headers = subst (λ (z : Option ℕ × Option BufferHeader). MovesHeaders z.0 z.1 old new) (λ i. (sym Q.taken i, sym Q.given i)) (headers_stay old new H);
    clients = subst (λ (z : Option Handle × Option OutClient). MovesClients z.0 z.1 old new) (λ i. (sym Q.back i, sym Q.gone i)) (clients_stay old new A);
    objects = O;
    leaves = λ h g w s u. Q.leaves h.generation u;
    told = λ u. if_none (client_out see.progress act reply) _ Q.gone;
    works = λ w v D o n u so m step. subst (λ (z : Option ℕ × Option (OutWork S K)). MovesWorks z.0 z.1 w v) (λ i. (sym Q.done i, sym Q.work i)) (works_alone see act reply old new Q.works w v D o n u so m step);
  }

  -- the act only looks
  pub looked_moved : (see : Sight S K C) (act : Act S K C) (reply : Reply S K C) (g : Shown S K C)
      → ((u : Unsaid) (w : World) → Stands (kept see.progress g) w → Step w (plain_act see u act) (plain_reply u reply) w) → MovesObjects act reply g g → IsQuiet see act reply → Moved see act reply g g
  looked_moved see act reply g T O Q = quiet_moved see act reply g g (λ u w s. (w, s, T u w s)) (record { stay = λ x h. h; come = λ n h. h }) (λ k. refl) O Q
