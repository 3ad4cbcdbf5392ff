-- How contracts see a `RouteTables`.
use Rattle.cidr.specs.declared.route_tables.RouteTables.{RouteTables}
use Rattle.cidr.specs.Routes.{Routes}

abbrev pub routes_of : RouteTables → Routes
routes_of tables = record { v4 = tables.v4; v6 = tables.v6 }
