-- A line that names neither a header nor a kind, and takes no note, makes one act that makes nothing, unless it moves a work.
use Rattle.std.proofs.Common.{◌≡◌, ℕ, List, [], ◌∷◌, map, Some, None, refl, sym, ◌∙◌, ap, subst}
use Rattle.il_machine.specs.World.{World}
use Rattle.il_machine.specs.Acts.{Act, Reply}
use Rattle.il_machine.specs.Run.{Step, Meets}
use Rattle.il_machine.specs.Whole.{Kept, Steps}
use Rattle.history_laws.specs.ClientHeaders.{taken_in}
use Rattle.act_text.specs.declared.act.TextAct.{TextAct}
use Rattle.act_text.specs.declared.act.TextAct.TheVariants as lines
use Rattle.act_text.specs.declared.reply.TextReply.{TextReply}
use Rattle.script_lang.specs.declared.form.TraceForm.TheVariants.{Act as act_form}
use Rattle.omx_types.specs.declared.handle.Handle.{Handle}
use Rattle.trace_run.specs.declared.reply.LineAnswer.{LineAnswer}
use Rattle.trace_run.specs.Naming.{Moment, Names, NamedHeader, handle_in, handle_of}
use Rattle.trace_run.specs.Asking.{asked}
use Rattle.trace_run.specs.Replying.{LineReply, Plain, printed}
use Rattle.trace_run.specs.Lines.{ActLine, Takes, Answered}
use Rattle.trace_run.specs.Standing.{Parts, as_header, moment_of, AskReplied, IsPlain, IsMoment, Leads, LeadsTo, TakeLeads}
use Rattle.trace_run.proofs.Made.{made_by}
use Rattle.history_laws.proofs.Cores.{NoneGot, NoneTaken}
use Rattle.trace_run.proofs.Standing.{stood_after, run_of_one}

-- the act asks nothing of the caller, and makes nothing
pub record MakesNothing (w : World) (a : Act) (r : Reply) : Type 0 where
  pub meets : Meets w a
  pub got : NoneGot a r
  pub made : made_by a r ≡ None
  pub taken : taken_in a r ≡ None
  pub notes : NoneTaken a r

makes_nothing : (at : Moment) (act : TextAct) (r : Reply) → IsPlain act → MakesNothing at.world (asked at act) r
makes_nothing at (lines.Free component) r P = record { meets = tt; got = tt; made = refl; taken = refl; notes = tt }
makes_nothing at (lines.State component) r P = record { meets = tt; got = tt; made = refl; taken = refl; notes = tt }
makes_nothing at (lines.Port port) r P = record { meets = tt; got = tt; made = refl; taken = refl; notes = tt }
makes_nothing at (lines.SetPort port format count size) r P = record { meets = tt; got = tt; made = refl; taken = refl; notes = tt }
makes_nothing at (lines.SetSupplier port supplier) r P = record { meets = tt; got = tt; made = refl; taken = refl; notes = tt }
makes_nothing at (lines.SetPriority component priority) r P = record { meets = tt; got = tt; made = refl; taken = refl; notes = tt }
makes_nothing at (lines.Gain component gain) r P = record { meets = tt; got = tt; made = refl; taken = refl; notes = tt }
makes_nothing at (lines.Weight port weight) r P = record { meets = tt; got = tt; made = refl; taken = refl; notes = tt }
makes_nothing at (lines.Tunnel first second) r P = record { meets = tt; got = tt; made = refl; taken = refl; notes = tt }
makes_nothing at (lines.DropTunnel first second) r P = record { meets = tt; got = tt; made = refl; taken = refl; notes = tt }
makes_nothing at (lines.SendState component state) r P = record { meets = tt; got = tt; made = refl; taken = refl; notes = tt }
makes_nothing at (lines.SendFlush component ports) r P = record { meets = tt; got = tt; made = refl; taken = refl; notes = tt }
makes_nothing at (lines.SendDisable component ports) r P = record { meets = tt; got = tt; made = refl; taken = refl; notes = tt }
makes_nothing at (lines.SendEnable component ports) r P = record { meets = tt; got = tt; made = refl; taken = refl; notes = tt }
makes_nothing at (lines.SendMark component port target value) r P = record { meets = tt; got = tt; made = refl; taken = refl; notes = tt }
makes_nothing at (lines.Run component) r P = record { meets = tt; got = tt; made = refl; taken = refl; notes = tt }
makes_nothing at (lines.Claim component) r P = absurd P
makes_nothing at (lines.Finish component) r P = absurd P
makes_nothing at (lines.Supply port) r P = record { meets = tt; got = tt; made = refl; taken = refl; notes = tt }
makes_nothing at (lines.Release port) r P = record { meets = tt; got = tt; made = refl; taken = refl; notes = tt }
makes_nothing at (lines.Over port) r P = record { meets = tt; got = tt; made = refl; taken = refl; notes = tt }
makes_nothing at (lines.Back port) r P = record { meets = tt; got = tt; made = refl; taken = refl; notes = tt }
makes_nothing at (lines.Take component) r P = absurd P
makes_nothing at (lines.End component) r P = absurd P
makes_nothing at lines.Grant r P = record { meets = tt; got = tt; made = refl; taken = refl; notes = tt }
makes_nothing at lines.Preempt r P = record { meets = tt; got = tt; made = refl; taken = refl; notes = tt }

act_line : (at : Moment) (act : TextAct) (r : Reply) (reply : LineReply) → IsPlain act → printed at.names r ≡ Some reply → ActLine at act ((asked at act, r) ∷ []) reply at.names
act_line at (lines.Free component) r reply P e = (r, record { one = refl; says = e }, refl)
act_line at (lines.State component) r reply P e = (r, record { one = refl; says = e }, refl)
act_line at (lines.Port port) r reply P e = (r, record { one = refl; says = e }, refl)
act_line at (lines.SetPort port format count size) r reply P e = (r, record { one = refl; says = e }, refl)
act_line at (lines.SetSupplier port supplier) r reply P e = (r, record { one = refl; says = e }, refl)
act_line at (lines.SetPriority component priority) r reply P e = (r, record { one = refl; says = e }, refl)
act_line at (lines.Gain component gain) r reply P e = (r, record { one = refl; says = e }, refl)
act_line at (lines.Weight port weight) r reply P e = (r, record { one = refl; says = e }, refl)
act_line at (lines.Tunnel first second) r reply P e = (r, record { one = refl; says = e }, refl)
act_line at (lines.DropTunnel first second) r reply P e = (r, record { one = refl; says = e }, refl)
act_line at (lines.SendState component state) r reply P e = (r, record { one = refl; says = e }, refl)
act_line at (lines.SendFlush component ports) r reply P e = (r, record { one = refl; says = e }, refl)
act_line at (lines.SendDisable component ports) r reply P e = (r, record { one = refl; says = e }, refl)
act_line at (lines.SendEnable component ports) r reply P e = (r, record { one = refl; says = e }, refl)
act_line at (lines.SendMark component port target value) r reply P e = (r, record { one = refl; says = e }, refl)
act_line at (lines.Run component) r reply P e = (r, record { one = refl; says = e }, refl)
act_line at (lines.Claim component) r reply P e = absurd P
act_line at (lines.Finish component) r reply P e = absurd P
act_line at (lines.Supply port) r reply P e = (r, record { one = refl; says = e }, refl)
act_line at (lines.Release port) r reply P e = (r, record { one = refl; says = e }, refl)
act_line at (lines.Over port) r reply P e = (r, record { one = refl; says = e }, refl)
act_line at (lines.Back port) r reply P e = (r, record { one = refl; says = e }, refl)
act_line at (lines.Take component) r reply P e = absurd P
act_line at (lines.End component) r reply P e = absurd P
act_line at lines.Grant r reply P e = (r, record { one = refl; says = e }, refl)
act_line at lines.Preempt r reply P e = (r, record { one = refl; says = e }, refl)

-- ---- from a moment that is stood for

module _ (old : Parts) (graph : Kept) (act : TextAct) (reply : TextReply) (P : IsPlain act)
    (h : (headers : List NamedHeader) → Steps old.graph graph (AskReplied old.components headers act reply)) where
  -- the same moment, with its names spelled out
  spelled : (at : Moment) → IsMoment old at → at ≡ moment_of at.world old.components (map as_header old.slots)
  spelled at S = let e = S.names in λ i. record { world = at.world; names = e i }

  from_moment : (at : Moment) → at ≡ moment_of at.world old.components (map as_header old.slots) → IsMoment old at → (next : Moment) × IsMoment (record old { graph = graph }) next × Answered at (act_form act) (Plain reply) next
  from_moment at e S =
      let headers = map as_header old.slots in
      let x = h headers at.world S.world in
      let R = x.2 in
      let r = R.answer in
      let v = x.0 in
      let step : Step at.world (asked at act) r v = subst (λ (m : Moment). Step at.world (asked m act) r v) (sym e) R.step in
      let N = makes_nothing at act r P in
      let says : printed at.names r ≡ Some (Plain reply) = ap (λ (n : Names). printed n r) S.names ∙ R.prints headers in (
        record at { world = v },
        stood_after old at graph (asked at act) r v S N.meets step x.1 N.got N.made N.taken N.notes,
        record {
          entries = (asked at act, r) ∷ [];
          says = act_line at act r (Plain reply) P says;
          run = run_of_one at.world (asked at act) r v N.meets step;
        },
      )

  pub asked_leads : Leads old (record old { graph = graph }) (act_form act) (Plain reply)
  asked_leads at S = from_moment at (spelled at S) S

-- ---- a line that takes a note

pub take_leads : (old new : Parts) (h : Handle) (component : List ℕ) (answer : LineAnswer) → h ≡ handle_in old.components component → TakeLeads old new h answer → LeadsTo old new (act_form (lines.Take component)) answer
take_leads old new h component answer e (reply, means, f) = (
  reply,
  means,
  λ at S.
      let x = f at S in
      let T = x.2 in
      let named : h ≡ handle_of at.names component = e ∙ ap (λ (n : Names). handle_of n component) (sym S.names) in (
        x.0,
        x.1,
        record {
          entries = T.entries;
          says = (T.result, T.progress, subst (λ (k : Handle). Takes at.names k T.result T.progress T.entries reply) named T.takes, T.names);
          run = T.run;
        },
      ),
)

-- ---- what is left of the acts

pub plain_unless : (act : TextAct) → ((component : List ℕ) → act ≡ lines.Take component → ⊥) → ((component : List ℕ) → act ≡ lines.Claim component → ⊥) → ((component : List ℕ) → act ≡ lines.Finish component → ⊥) → ((component : List ℕ) → act ≡ lines.End component → ⊥)
    → IsPlain act
plain_unless (lines.Free component) t k f e = tt
plain_unless (lines.State component) t k f e = tt
plain_unless (lines.Port port) t k f e = tt
plain_unless (lines.SetPort port format count size) t k f e = tt
plain_unless (lines.SetSupplier port supplier) t k f e = tt
plain_unless (lines.SetPriority component priority) t k f e = tt
plain_unless (lines.Gain component gain) t k f e = tt
plain_unless (lines.Weight port weight) t k f e = tt
plain_unless (lines.Tunnel first second) t k f e = tt
plain_unless (lines.DropTunnel first second) t k f e = tt
plain_unless (lines.SendState component state) t k f e = tt
plain_unless (lines.SendFlush component ports) t k f e = tt
plain_unless (lines.SendDisable component ports) t k f e = tt
plain_unless (lines.SendEnable component ports) t k f e = tt
plain_unless (lines.SendMark component port target value) t k f e = tt
plain_unless (lines.Run component) t k f e = tt
plain_unless (lines.Claim component) t k f e = k component refl
plain_unless (lines.Finish component) t k f e = f component refl
plain_unless (lines.Supply port) t k f e = tt
plain_unless (lines.Release port) t k f e = tt
plain_unless (lines.Over port) t k f e = tt
plain_unless (lines.Back port) t k f e = tt
plain_unless (lines.Take component) t k f e = t component refl
plain_unless (lines.End component) t k f e = e component refl
plain_unless lines.Grant t k f e = tt
plain_unless lines.Preempt t k f e = tt
