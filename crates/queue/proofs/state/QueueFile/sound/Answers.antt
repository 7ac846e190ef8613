-- `queue::state::QueueFile::sound` meets its contract: what it answers knows just what was tested. Assumes nothing.
use Rattle.queue.proofs.SoundQueueLaws.{known_made}
use Rattle.queue.proofs.state.QueueFile.sound.Goals as goal

pub returns : goal.returns
returns c = known_made _ _ _
