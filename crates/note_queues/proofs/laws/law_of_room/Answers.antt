use Rattle.note_queues.proofs.Rooms.{room-queue, commands_of-queue}
use Rattle.note_queues.proofs.laws.law_of_room.Goals as goal

pub returns : goal.returns
returns g c = record { room = room-queue; commands = commands_of-queue }
