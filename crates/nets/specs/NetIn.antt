-- The net that tables hold.
-- Assumes nothing.
use Rattle.nets.specs.Net.{Net}
use Rattle.nets.specs.Tables.{net_of}
use Rattle.nets.specs.declared.Tables.{Tables}

abbrev pub net_in : Tables → Net
net_in t = net_of t.sections t.sizes t.parents t.needs t.losses t.costs
