use Rattle.std.proofs.Common.{◌*◌}
use Rattle.save_disk.specs.State.{IsQuiet, IsSteady}
use Rattle.page_image.specs.Reading.{AreSectorsRead}
use Rattle.page_image.proofs.fetching.read_sectors.Given as goal

abbrev pub invariant-loop-sector : goal.invariant-loop-sector
invariant-loop-sector g l = record {
  read : AreSectorsRead (g.D.Disk.state l.initial.disk) l.grain l.first l.bytes (l.sector * l.grain);
  quiet : IsQuiet (g.D.Disk.state l.initial.disk) (g.D.Disk.state l.disk);
  steady : IsSteady (g.D.Disk.state l.initial.disk) (g.D.Disk.state l.disk);
}
