mod Adding
mod Taking
