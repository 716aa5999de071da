-- The view of RAM.
use Rattle.real_store.specs.declared.store.Store.TheInside.{Inside}
use Rattle.real_store.specs.StoreView.{StoreView}

abbrev pub shown_of : Inside → StoreView
shown_of s = record { ram = s.bytes.items }
