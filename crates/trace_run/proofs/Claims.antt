-- A claim's answer, and the work that it gives, as the trace keeps it.
use Rattle.std.proofs.Common.{◌≡◌, false, List, [], ◌∷◌, ◌++◌, Some, None, Result, Ok, ◌∙◌, ap}
use Rattle.std.specs.Prelude.{IsSomeAnd}
use Rattle.omx_types.specs.declared.error.OmxError.{OmxError}
use Rattle.omx_types.specs.declared.handle.Handle.{Handle}
use Rattle.part_api.specs.Terms.{Terms}
use Rattle.il_machine.specs.World.{Stream, World, stream_of}
use Rattle.il_machine.specs.Answers.{component_named}
use Rattle.il_machine.specs.Claims as machine
use Rattle.il_machine.specs.Acts as acts
use Rattle.il_machine.specs.Whole.{HasDone, Kept, Stands, Steps}
use Rattle.graph_core.specs.Claiming.{AreLent}
use Rattle.il_graph.specs.Finishing.{IsItsOwn}
use Rattle.act_text.specs.declared.reply.TextReply.{TextReply}
use Rattle.act_text.specs.declared.reply.TextReply.TheVariants as texts
use Rattle.act_text.specs.declared.reply.TextWhy.{TextWhy}
use Rattle.trace_run.specs.Naming.{Names}
use Rattle.trace_run.specs.Replying.{Plain, claimed_reply, printed}
use Rattle.held_work_laws.specs.Claims.{TakesWork}
use Rattle.held_work_laws.specs.Works.{HeldWork, seen_of}
use Rattle.held_work_laws.proofs.Taken.{work_taken as taken}
use Rattle.trace_run.specs.Works.{ClaimedSo}

pub answered : (old new : Kept) (h : Handle) (works news : List HeldWork) (answer : Result machine.Claimed OmxError) (reply : TextReply) (R : World → Type 0) → ((v : World) → Stands new v → R v → TakesWork h works news answer v)
    → ((names : Names) → printed names (acts.Claimed answer) ≡ Some (Plain reply)) → Steps old new (λ w v. machine.Claim w h answer v × R v) → Steps old new (ClaimedSo h works news reply)
answered old new h works news answer reply R T p steps w S =
    let x = steps w S in
    (x.0, x.1, record { answer = answer; step = x.2.0; prints = p; works_are = T x.0 x.1 x.2.1 })

-- ---- a work that was given

pub work_taken : (k : Kept) (h : Handle) (works news : List HeldWork) (t : Terms) (x : HeldWork) (v : World) → Stands k v → news ≡ works ++ x ∷ [] → x.handle ≡ h → (x.announces ≡ false → x.terms ≡ t)
    → ((s : Stream) → stream_of x.handle.generation v ≡ Some s → HasDone t false s x.part) → IsSomeAnd (component_named h (k.looks).components) (λ c. IsItsOwn c x.announces None x.terms x.failed) → x.failed ≡ false
    → AreLent h.generation x.headers k.looks → TakesWork h works news (Ok (machine.ClaimedWork (seen_of t x))) v
work_taken k h works news t x v S e is set_so gone own unfailed lent =
    (x, e, taken k h t x v S is set_so (λ s f. gone s (ap (λ (y : Handle). stream_of y.generation v) is ∙ f)) own unfailed lent)

-- ---- an answer without a work

pub none_taken : (h : Handle) (works news : List HeldWork) (x : machine.Claimed) (why : TextWhy) (v : World) → claimed_reply x ≡ texts.Idle why → news ≡ works → TakesWork h works news (Ok x) v
none_taken h works news (machine.ClaimedWork work) why v e n = absurd cc
none_taken h works news other why v e n = n
