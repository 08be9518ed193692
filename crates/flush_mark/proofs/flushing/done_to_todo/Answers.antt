use Rattle.std.proofs.Common.{◌≡◌, false, ◌∷◌, drop, sym, ◌∙◌, ap, subst}
use Rattle.il_machine.specs.declared.header.Spot.TheVariants.{TodoBack}
use Rattle.il_machine.specs.Headers.{put_all, unloaded, output_reset}
use Rattle.il_machine.specs.World.{Load}
use Rattle.il_machine.specs.Buffers.{load_in}
use Rattle.il_machine.specs.Stock.{Stocked, pushed, done_pulled}
use Rattle.header_core.specs.BufferHeader.{BufferHeader}
use Rattle.port_stock.specs.Kept.{stocked}
use Rattle.flush_mark.proofs.ResetSteps.{Begun, begun_done, front_is, done_step}
use Rattle.flush_mark.proofs.flushing.done_to_todo.Goals as goal

pub loop-sent-init : goal.loop-sent-init
loop-sent-init c =
    let key = c.args.key in
    let s = stocked c.args.stock.now in
    subst (λ (t : Stocked). Begun (output_reset key) (put_all key TodoBack (t.headers.done key)) s t) (sym c.clear_todo.ensures) (begun_done s key)

pub loop-sent-preserved : goal.loop-sent-preserved
loop-sent-preserved c =
    let key = c.args.key in
    let s = stocked c.loop-sent.stock in
    let n = c.in-Some.sent.held.number in
    let load : Load = load_in c.in-Some.sent.held in
    let e : s.headers.done key ≡ n ∷ drop 1 (s.headers.done key) = front_is (s.headers.done key) n c.in-Some.ensures.front in
    let p : stocked c.push_header.new.self ≡ pushed key TodoBack n (unloaded load) (done_pulled key s) = c.push_header.ensures
    ∙ (ap (λ (h : BufferHeader). pushed key TodoBack h.held.number (load_in h.held) (stocked c.pull_done.new.self)) c.clear.ensures ∙ ap (pushed key TodoBack n (unloaded load)) c.pull_done.ensures.stock) in
    subst (λ (t : Stocked). Begun (output_reset key) (put_all key TodoBack (t.headers.done key)) (stocked c.args.stock.now) t) (sym p)
    (done_step (output_reset key) (stocked c.args.stock.now) s key n (drop 1 (s.headers.done key)) load e c.in-Some.ensures.was.1 c.loop-sent.invariant)
