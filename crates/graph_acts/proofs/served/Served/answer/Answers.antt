use Rattle.graph_acts.proofs.served.Served.answer.Goals as goal

pub returns-in-GetHandle : goal.returns-in-GetHandle
returns-in-GetHandle g c = rw c.in-GetHandle.is c.get_handle.ensures

pub returns-in-FreeHandle : goal.returns-in-FreeHandle
returns-in-FreeHandle g c = rw c.in-FreeHandle.is c.free_handle.ensures

pub returns-in-Attach : goal.returns-in-Attach
returns-in-Attach g c = rw c.in-Attach.is c.attach.ensures

pub returns-in-GetState : goal.returns-in-GetState
returns-in-GetState g c = rw c.in-GetState.is c.get_state.ensures

pub returns-in-PortView : goal.returns-in-PortView
returns-in-PortView g c = rw c.in-PortView.is c.port_view.ensures

pub returns-in-Progress : goal.returns-in-Progress
returns-in-Progress g c = rw c.in-Progress.is c.progress.ensures

pub returns-in-GetParameter : goal.returns-in-GetParameter
returns-in-GetParameter g c = rw c.in-GetParameter.is c.get_parameter.ensures

pub returns-in-GetConfig : goal.returns-in-GetConfig
returns-in-GetConfig g c = rw c.in-GetConfig.is c.get_config.ensures

pub returns-in-SetParameter : goal.returns-in-SetParameter
returns-in-SetParameter g c = rw c.in-SetParameter.is c.set_parameter.ensures

pub returns-in-SetConfig : goal.returns-in-SetConfig
returns-in-SetConfig g c = rw c.in-SetConfig.is c.set_config.ensures

pub returns-in-SetupTunnel : goal.returns-in-SetupTunnel
returns-in-SetupTunnel g c = rw c.in-SetupTunnel.is c.setup_tunnel.ensures

pub returns-in-DropTunnel : goal.returns-in-DropTunnel
returns-in-DropTunnel g c = rw c.in-DropTunnel.is c.drop_tunnel.ensures

pub returns-in-SendCommand : goal.returns-in-SendCommand
returns-in-SendCommand g c = rw c.in-SendCommand.is c.send_command.ensures

pub returns-in-RunCommand : goal.returns-in-RunCommand
returns-in-RunCommand g c = rw c.in-RunCommand.is c.run_command.ensures

pub returns-in-AllocateBuffer : goal.returns-in-AllocateBuffer
returns-in-AllocateBuffer g c = rw c.in-AllocateBuffer.is c.allocate_buffer.ensures

pub returns-in-UseBuffer : goal.returns-in-UseBuffer
returns-in-UseBuffer g c = rw c.in-UseBuffer.is c.use_buffer.ensures

pub returns-in-FreeBuffer : goal.returns-in-FreeBuffer
returns-in-FreeBuffer g c = rw c.in-FreeBuffer.is c.free_buffer.ensures

pub returns-in-EmptyThisBuffer : goal.returns-in-EmptyThisBuffer
returns-in-EmptyThisBuffer g c = rw c.in-EmptyThisBuffer.is c.empty_this_buffer.ensures

pub returns-in-FillThisBuffer : goal.returns-in-FillThisBuffer
returns-in-FillThisBuffer g c = rw c.in-FillThisBuffer.is c.fill_this_buffer.ensures

pub returns-in-TakeNote : goal.returns-in-TakeNote
returns-in-TakeNote g c = rw c.in-TakeNote.is c.take_note.ensures

pub returns-in-EndNote : goal.returns-in-EndNote
returns-in-EndNote g c = rw c.in-EndNote.is c.end_note.ensures

pub returns-in-Supply : goal.returns-in-Supply
returns-in-Supply g c = rw c.in-Supply.is c.supply.ensures

pub returns-in-Release : goal.returns-in-Release
returns-in-Release g c = rw c.in-Release.is c.release.ensures

pub returns-in-HandOver : goal.returns-in-HandOver
returns-in-HandOver g c = rw c.in-HandOver.is c.hand_over.ensures

pub returns-in-HandBack : goal.returns-in-HandBack
returns-in-HandBack g c = rw c.in-HandBack.is c.hand_back.ensures

pub returns-in-Claim : goal.returns-in-Claim
returns-in-Claim g c = rw c.in-Claim.is c.claim.ensures

pub returns-in-Finish : goal.returns-in-Finish
returns-in-Finish g c = rw c.in-Finish.is c.finish.ensures

pub returns-in-Grant : goal.returns-in-Grant
returns-in-Grant g c = rw c.in-Grant.is c.grant.ensures

pub returns-in-Preempt : goal.returns-in-Preempt
returns-in-Preempt g c = rw c.in-Preempt.is c.preempt.ensures
