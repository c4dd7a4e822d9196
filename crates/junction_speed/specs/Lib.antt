pub use Rattle.line_geom.specs.Junctions
