use Rattle.container_header.proofs.HeaderRead.{reading-raw}
use Rattle.container_header.proofs.header.Header.write.Goals as goal

pub returns-clause-read_again : goal.returns-clause-read_again
returns-clause-read_again c = λ image long holds sound. reading-raw c.args.self.now image c.requires long holds sound
