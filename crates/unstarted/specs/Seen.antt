-- What a search of the code has found, as the definition has it.
use Rattle.unstarted.specs.Unstarted.{search_of}
use Rattle.unstarted.specs.Unstarted as definition
use Rattle.unstarted.specs.declared.Search.{Search}

abbrev pub seen : Search → definition.Search
seen s = search_of s.flags.now s.order.now s.count
