-- An act is answered, and the answer is printed so.
use Rattle.std.proofs.Common.{◌≡◌, List, Some, Result, Ok, Err, refl, sym, subst}
use Rattle.std.specs.Prelude.{IfOk}
use Rattle.omx_types.specs.declared.error.OmxError.{OmxError}
use Rattle.omx_types.specs.declared.handle.PortId.{PortId}
use Rattle.il_machine.specs.World.{World}
use Rattle.il_machine.specs.Due.{ClosesTo, IsClosed}
use Rattle.il_machine.specs.Answers.{Looks}
use Rattle.il_machine.specs.Acts.{Act, Reply}
use Rattle.il_machine.specs.Run.{Step}
use Rattle.il_machine.specs.Whole.{Kept, Stands, Steps}
use Rattle.act_text.specs.declared.act.TextAct.{TextAct}
use Rattle.act_text.specs.declared.reply.TextReply.{TextReply}
use Rattle.trace_run.specs.declared.names.NamedComponent.{NamedComponent}
use Rattle.trace_run.specs.Naming.{NamedHeader}
use Rattle.trace_run.specs.Replying.{Plain, printed}
use Rattle.trace_run.specs.Standing.{IsAtRest, Replied, AskReplied}
use Rattle.trace_run.proofs.Standing.{world_rests}

abbrev pub IsPrinted : List NamedComponent → Reply → TextReply → Type 0
IsPrinted components r reply = (headers : List NamedHeader) → printed (record { components = components; headers = headers }) r ≡ Some (Plain reply)

pub replied : (components : List NamedComponent) (a : Act) (r : Reply) (reply : TextReply) (old new : Kept) → IsPrinted components r reply → Steps old new (λ w v. Step w a r v) → Steps old new (λ w v. Replied components a reply w v)
replied components a r reply old new p h w S = let x = h w S in (x.0, x.1, record { answer = r; step = x.2; prints = p })

-- ---- a call that looks

closes_here : (w : World) → IsClosed w → ClosesTo w w
closes_here w C = record { steps = 0; by_steps = refl; closed = C }

pub looks_here : {T : Type 0} (answer result : Result T OmxError) (w : World) → result ≡ answer → IsClosed w → Looks answer result w w
looks_here (Ok x) result w e C = (e, closes_here w C)
looks_here (Err error) result w e C = (e, refl)

pub looked : (components : List NamedComponent) (a : Act) (r : Reply) (reply : TextReply) (k : Kept) → IsAtRest k → IsPrinted components r reply → ((w : World) → Stands k w → IsClosed w → Step w a r w) → Steps k k (λ w v. Replied components a reply w v)
looked components a r reply k R p h w S = (w, S, record { answer = r; step = h w S (world_rests k w S R); prints = p })

-- ---- by another name of the same component or port

pub at_name : {T : Type 0} (components : List NamedComponent) (act : World → T → Act) (reply : TextReply) (old new : Kept) (x y : T) → x ≡ y → Steps old new (λ w v. Replied components (act w x) reply w v)
    → Steps old new (λ w v. Replied components (act w y) reply w v)
at_name {T} components act reply old new x y e s = subst (λ (z : T). Steps old new (λ w v. Replied components (act w z) reply w v)) e s

pub at_ports : (components : List NamedComponent) (act : PortId → PortId → Act) (reply : TextReply) (old new : Kept) (p q r s : PortId) → p ≡ r → q ≡ s → Steps old new (λ w v. Replied components (act p q) reply w v)
    → Steps old new (λ w v. Replied components (act r s) reply w v)
at_ports components act reply old new p q r s e f h =
    subst (λ (x : PortId). Steps old new (λ w v. Replied components (act r x) reply w v)) f (subst (λ (x : PortId). Steps old new (λ w v. Replied components (act x q) reply w v)) e h)

pub as_asked : (components : List NamedComponent) (headers : List NamedHeader) (reply : TextReply) (old new : Kept) (a b : TextAct) → a ≡ b → Steps old new (AskReplied components headers b reply) → Steps old new (AskReplied components headers a reply)
as_asked components headers reply old new a b e s = subst (λ (x : TextAct). Steps old new (AskReplied components headers x reply)) (sym e) s

pub ok_then : {T E : Type 0} (P Q : T → Type 0) (r : Result T E) → IfOk r P → ((x : T) → P x → Q x) → IfOk r Q
ok_then P Q (Ok x) h f = f x h
ok_then P Q (Err error) h f = tt
